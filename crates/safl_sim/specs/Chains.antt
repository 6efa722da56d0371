-- Lists of numbers, linked in one array.
use Rattle.std.specs.Prelude.{ℕ, zero, suc, ◌≤◌, List, [], ◌∷◌, map, length, slice_index}
use Rattle.safl_sim.specs.declared.chains.Link.{Link}

-- the numbers of the list whose first link is k, at most this many. Links are numbered from 1, and 0 is the end of a list
abbrev pub chain_of : ℕ → List ℕ → List ℕ → ℕ → List ℕ
chain_of zero numbers nexts k = []
chain_of (suc most) numbers nexts zero = []
chain_of (suc most) numbers nexts (suc i) = slice_index numbers i ∷ chain_of most numbers nexts (slice_index nexts i)

-- the numbers of the list that begins with link k. A link leads only to earlier ones, so the list has at most k links
abbrev pub chain : List ℕ → List ℕ → ℕ → List ℕ
chain numbers nexts k = chain_of k numbers nexts k

abbrev pub numbers_of : List Link → List ℕ
numbers_of links = map (λ (l : Link). l.number) links

abbrev pub nexts_of : List Link → List ℕ
nexts_of links = map (λ (l : Link). l.next) links

abbrev pub lists_of : List ℕ → List Link → List (List ℕ)
lists_of heads links = map (chain (numbers_of links) (nexts_of links)) heads

pub record AreChains (heads : List ℕ) (links : List Link) : Type 0 where
  pub earlier : (i : ℕ) → slice_index (nexts_of links) i ≤ i
  pub known : (p : ℕ) → slice_index heads p ≤ length links
