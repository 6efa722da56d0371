-- What several proofs of this crate cite from elsewhere.
pub use Rattle.std.proofs.Common.{List, ap, arith, get_or, inl, inr, length, refl, rules, slice_set, subst, sym, ℕ, ◌*◌, ◌+◌, ◌-◌, ◌/◌, ◌<◌}
pub use Rattle.std.proofs.Common.{◌∙◌, ◌≡◌, ◌≤◌, ◌⊎◌}
pub use Rattle.std.proofs.lemmas.Bool.{cases_eq, cases_lt}
pub use Rattle.std.proofs.lemmas.Grind.{get_or-set_at}
pub use Rattle.std.proofs.lemmas.List.{get_or-set_other, get_or_past, get_or_read, nil_from_length}
pub use Rattle.safl_sites.specs.Collecting.{Collides, IsCollected}
pub use Rattle.safl_sites.specs.Conflicts.{Reaches}
pub use Rattle.safl_sites.specs.Keeping.{IsHeldHere}
pub use Rattle.safl_sites.specs.Parts.{IsPart}
pub use Rattle.safl_sites.specs.Peers.{ArePeers}
pub use Rattle.safl_sites.specs.Plan.{HasArbiter}
pub use Rattle.safl_sites.specs.Reach.{MayReach, MayReachIn}
pub use Rattle.safl_sites.specs.SiteSets.{Adds, Has, HasAt, IsCommon, Meets, no_set}
pub use Rattle.safl_sites.specs.Spreading.{IsSpread}
pub use Rattle.safl_sites.specs.Touched.{IsTouched}
pub use Rattle.safl_sites.specs.declared.keep.Keeping.{Keeping}
pub use Rattle.safl_sites.specs.declared.site_set.SiteSet.{SiteSet}
pub use Rattle.safl_term.proofs.Order.{stands_within}
pub use Rattle.safl_term.proofs.PlainTerms.{some_nodes}
pub use Rattle.safl_term.specs.Checked.{CheckedProgram, IsChecked}
pub use Rattle.safl_term.specs.Program.{Program, arity, unit_for}
pub use Rattle.safl_term.specs.Sizes.{nodes, nodes_in}
pub use Rattle.safl_term.specs.Terms.{Call, Cons, Const, If, Let, Loop, Nil, Op, Term, Terms, Var}
pub use Rattle.safl_term.specs.Tree.{shown_term, shown_terms}
pub use Rattle.safl_word.specs.Lists.{bool_at}
pub use Rattle.safl_word.specs.Words.{Word}
pub use Rattle.safl_word.specs.declared.primitive.Primitive.{Primitive}
