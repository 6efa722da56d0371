-- What several proofs of this crate cite from elsewhere.
pub use Rattle.std.proofs.Common.{List, ap, arith, take, ℕ, ◌++◌, ◌∙◌, ◌≡◌}
pub use Rattle.std.specs.List.{flat_map}
pub use Rattle.std.specs.Prelude.{codes}
pub use Rattle.safl_net.proofs.SignalKinds.{output_known}
pub use Rattle.safl_net.specs.Written.{literal}
pub use Rattle.safl_net.specs.WrittenParts.{input_declaration, input_port, output_assignment, output_declaration, register_declaration}
pub use Rattle.safl_net.specs.WrittenParts.{register_update, wire_assignment, wire_declaration}
