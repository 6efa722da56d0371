-- What calls of a shelf leave, one after another.
use Rattle.std.proofs.Common.{◌≡◌, refl, subst, ◌∙◌, arith}
use Rattle.safl_io.specs.Shelf.{ShelfState, SameFiles, SameReads}

pub files_same : (a b : ShelfState) → a ≡ b → SameFiles a b
files_same a b e = subst (λ (s : ShelfState). SameFiles a s) e (record { holds = refl; reads = omega arith; writes = refl; strays = omega arith })

pub files_then : (a b c : ShelfState) → SameFiles a b → SameFiles b c → SameFiles a c
files_then a b c f g = record {
  holds = g.holds ∙ f.holds;
  reads = let p = f.reads in let q = g.reads in omega (arith, p, q);
  writes = g.writes ∙ f.writes;
  strays = let p = f.strays in let q = g.strays in omega (arith, p, q);
}

pub reads_same : (a b : ShelfState) → a ≡ b → SameReads a b
reads_same a b e = subst (λ (s : ShelfState). SameReads a s) e (record { reads = refl; writes = omega arith; strays = omega arith })

pub reads_then : (a b c : ShelfState) → SameReads a b → SameReads b c → SameReads a c
reads_then a b c f g = record {
  reads = g.reads ∙ f.reads;
  writes = let p = f.writes in let q = g.writes in omega (arith, p, q);
  strays = let p = f.strays in let q = g.strays in omega (arith, p, q);
}
