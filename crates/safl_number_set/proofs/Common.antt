-- What several proofs of this crate cite from elsewhere.
pub use Rattle.std.proofs.Common.{List, ap, arith, get_or, length, replicate, subst, sym, take, ℕ, ◌*◌, ◌+◌, ◌-◌, ◌/◌, ◌<◌, ◌∙◌, ◌≡◌, ◌≤◌}
pub use Rattle.std.proofs.lemmas.Bool.{cases_eq}
pub use Rattle.std.proofs.lemmas.List.{get_or_read, length-replicate}
pub use Rattle.std.specs.Prelude.{sum}
pub use Rattle.safl_number_set.specs.Groups.{Grouped, counted, shown_groups}
pub use Rattle.safl_number_set.specs.Linking.{AreBelow, AreLinked, AreLinkedFrom, Follows, IsBeside}
pub use Rattle.safl_number_set.specs.Numbers.{AreSums, IsCounted, part}
pub use Rattle.safl_number_set.specs.Tallies.{AreSummed, Shifts, shift_of}
pub use Rattle.safl_number_set.specs.declared.groups.Groups.{Groups}
pub use Rattle.safl_number_set.specs.declared.tally.Tally.{Tally}
