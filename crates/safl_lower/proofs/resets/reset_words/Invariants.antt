use Rattle.safl_lower.proofs.Common.{AreSources, Builds, Val, Wired, unwrap_or, words}
use Rattle.std.proofs.Common.{◌≡◌, ℕ, ◌*◌, List, take}
use Rattle.safl_lower.specs.Tables.{taken_in, FitsIn}
use Rattle.safl_lower.proofs.resets.reset_words.Given as goal

abbrev pub invariant-loop-i : goal.invariant-loop-i
invariant-loop-i l = record {
  built : Builds l.initial.net l.net (62 * l.i);
  fits : (ws : List ℕ) → FitsIn l.initial.net l.load ws → FitsIn l.initial.net l.looped ws → AreSources l.initial.net l.operands ws → AreSources l.net l.all.items (take l.i ws);
  shows : (v : Val) → Wired l.net v → words v l.all.items ≡ take l.i (unwrap_or (taken_in v l.load) (unwrap_or (taken_in v l.looped) (words v l.operands)));
}
