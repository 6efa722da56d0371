use Rattle.safl_lower.proofs.Common.{AllWithin, AreSources, Builds, Val, Wired, on, words}
use Rattle.std.proofs.Common.{◌≡◌, ℕ, List, ◌∷◌, ◌++◌, cond, take}
use Rattle.safl_lower.proofs.gates.mux_all.Given as goal

abbrev pub invariant-loop-i : goal.invariant-loop-i
invariant-loop-i l = record {
  built : Builds l.initial.net l.net l.i;
  fits : (ws : List ℕ) → AreSources l.initial.net l.a ws → AreSources l.initial.net l.b ws → AreSources l.net l.all.items (take l.i ws);
  value : (v : Val) → Wired l.net v → words v l.all.items ≡ cond (on v l.c) (words v (take l.i l.a)) (words v (take l.i l.b));
  height : AllWithin l.net (l.c ∷ (l.a ++ l.b)) 1 l.all.items;
}
