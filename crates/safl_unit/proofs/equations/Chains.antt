-- Tables of bits and loads, by one entry more.
use Rattle.safl_unit.proofs.Common.{AreSources, Builds, IsSource, Load, Netlist, Outcomes, Program, Sig, Val, Wired, Word, arity, gate, on}
use Rattle.safl_unit.proofs.Common.{or_else, or_is, slice_get_read, sources_kept, sources_length, wired_before, words}
use Rattle.std.proofs.Common.{◌≡◌, ℕ, zero, suc, ◌+◌, ◌<◌, ◌≤◌, List, [], ◌∷◌, ◌++◌, length, map, take, Option, Some, None, Vec, Global, Bool, true}
use Rattle.std.proofs.Common.{false, cond, ◌&&◌, ◌||◌, ◌==◌, slice_get, slice_index_or, is_some, refl, sym, ap, subst, ◌∙◌, add-one, arith}
use Rattle.safl_word.proofs.Booleans.{or_assoc, or_none}
use Rattle.safl_calls.specs.Picks.{first}
use Rattle.safl_calls.proofs.Basics.{first_zero}
use Rattle.safl_lower.specs.Tables.{entry_in, taken, taken_in, taken_at, taken_from, on_in, on_from, FitsIn, LoadFits, SomeFit, IsBitIn, BitsFit}
use Rattle.safl_lower.specs.Rows.{maybe_one, AreBits, AllFit, on_any, first_taken, bit_joins, total, row_at, any_at, first_at, RowsAreBits, RowsFit}
use Rattle.safl_lower.specs.Joints.{IsAnyOf, IsFirstOf}
use Rattle.safl_lower.proofs.JoinedRows.{any_pushed, bits_pushed, first_pushed, fit_pushed}
use Rattle.safl_unit.specs.Stages.{OutcomesFit}
use Rattle.safl_unit.specs.Edges.{one_below, bit_of, operands_in, ShowsBits, ShowsLoads}
use Rattle.safl_unit.proofs.equations.Others.{maybe_fits, any_next, below_zero}

-- ---- one more

below_more : (t : ℕ → Bool) (n : ℕ) → one_below t (n + 1) ≡ (one_below t n || t n)
unfolding one_below
below_more t n = ap (one_below t) (add-one n)

first_next : {A : Type 0} (g : ℕ → Option A) (n : ℕ) → first g (n + 1) ≡ or_else (first g n) (g n)
unfolding first
first_next g n = ap (first g) (add-one n)

pub start_bits : (n : Netlist) (xs : List (Option Sig)) (count : ℕ) (base : Val → ℕ → Bool) (t : Val → ℕ → ℕ → Bool) → ShowsBits n xs count base →
    ShowsBits n xs count (λ v i. base v i || one_below (t v i) 0)
start_bits n xs count base t h = record {
  entries = h.entries;
  fits = h.fits;
  shows = λ v w i. h.shows v w i ∙ or_none (base v i) ∙ ap (λ (b : Bool). base v i || b) (sym (below_zero (t v i)));
}

pub more_bits : (a b : Netlist) (xs ys : List (Option Sig)) (count place k m : ℕ) (new : Val → Bool) (base : Val → ℕ → Bool) (t : Val → ℕ → ℕ → Bool) → Builds a b k
    → ShowsBits a xs count (λ v i. base v i || one_below (t v i) m) → length ys ≡ length xs → BitsFit b ys
    → ((v : Val) → Wired b v → (i : ℕ) → on_from v ys i ≡ (on_from v xs i || ((i == place) && new v)))
    → ((v : Val) (i : ℕ) → Wired b v → ((i == place) && new v) ≡ t v i m) → ShowsBits b ys count (λ v i. base v i || one_below (t v i) (m + 1))
more_bits a b xs ys count place k m new base t built h e f g q = record {
  entries = e ∙ h.entries;
  fits = f;
  shows = λ v w i.
      g v w i ∙ ap (λ (x : Bool). x || ((i == place) && new v)) (h.shows v (wired_before built.grows w) i) ∙ or_assoc (base v i) (one_below (t v i) m) ((i == place) && new v)
      ∙ ap (λ (x : Bool). base v i || (one_below (t v i) m || x)) (q v i w) ∙ ap (λ (x : Bool). base v i || x) (sym (below_more (t v i) m));
}

pub gates_both : {A : Type 0} (a b : Bool) (o : Option A) → gate (a && b) o ≡ gate a (gate b o)
gates_both true b o = refl
gates_both false b o = refl

-- ---- rows of loads

-- so many rows of loads, which show this
pub record LoadRows (n : Netlist) (rows : List (Vec Load Global)) (count : ℕ) (ws : ℕ → List ℕ) (says : Val → ℕ → Option (List Word)) : Type 0 where
  pub entries : length rows ≡ count
  pub fits : RowsFit n rows ws
  pub shows : (v : Val) (i : ℕ) → first_at v rows i ≡ says v i

pub bare_load_rows : (n : Netlist) (rows : List (Vec Load Global)) (count : ℕ) (ws : ℕ → List ℕ) (t : Val → ℕ → ℕ → Option (List Word)) → length rows
    ≡ count → ((i : ℕ) → row_at rows i ≡ []) → LoadRows n rows count ws (λ v i. first (t v i) 0)
bare_load_rows n rows count ws t e h = record {
  entries = e;
  fits = λ i. subst (λ (l : List Load). AllFit n l (ws i)) (sym (h i)) tt;
  shows = λ v i. ap (first_taken v) (h i) ∙ sym (first_zero (t v i));
}

pub more_load_rows : (n : Netlist) (rows after : List (Vec Load Global)) (count place m : ℕ) (l : Load) (ws : ℕ → List ℕ)
    (t : Val → ℕ → ℕ → Option (List Word)) → LoadRows n rows count ws (λ v i. first (t v i) m) → length after ≡ length rows
    → ((i : ℕ) → row_at after i ≡ row_at rows i ++ cond (i == place) (l ∷ []) []) → LoadFits n l (ws place) →
    ((v : Val) (i : ℕ) → gate (i == place) (taken v l) ≡ t v i m) → LoadRows n after count ws (λ v i. first (t v i) (m + 1))
more_load_rows n rows after count place m l ws t h e r f q = record {
  entries = e ∙ h.entries;
  fits = λ i. fit_pushed n (row_at rows i) (row_at after i) i place l ws (r i) (h.fits i) f;
  shows = λ v i.
      first_pushed v (row_at rows i) (row_at after i) (i == place) l (r i) ∙ or_is (first_at v rows i) (gate (i == place) (taken v l))
      ∙ ap (λ (x : Option (List Word)). or_else x (gate (i == place) (taken v l))) (h.shows v i) ∙ ap (λ (x : Option (List Word)). or_else (first (t v i) m) x) (q v i) ∙ sym (first_next (t v i) m);
}

pub joined_loads : (a b : Netlist) (rows : List (Vec Load Global)) (all : List (Option Load)) (count : ℕ) (ws : ℕ → List ℕ)
    (says : Val → ℕ → Option (List Word)) → LoadRows a rows count ws says → length all ≡ length rows → SomeFit b all ws
    → ((i : ℕ) → IsFirstOf b (row_at rows i) (entry_in (slice_get all i))) → ShowsLoads b all count ws says
joined_loads a b rows all count ws says h e f j = record { entries = e ∙ h.entries; fits = f; shows = λ v w i. (j i).shows v w ∙ h.shows v i }

-- a load of this bit and these words
pub load_fits : (n : Netlist) (l : Load) (bit : Sig) (ops : List Sig) (ws : List ℕ) → l.bit ≡ bit → l.words.items ≡ ops → IsSource n bit 1 → AreSources n ops ws → LoadFits n l ws
load_fits n l bit ops ws e f p q = record { bit = subst (λ (s : Sig). IsSource n s 1) (sym e) p; words = subst (λ (xs : List Sig). AreSources n xs ws) (sym f) q }

pub taken_shown : (v : Val) (l : Load) (t : Bool) (bit : Sig) (ops : List Sig) → l.bit ≡ bit → l.words.items ≡ ops → gate t (taken v l) ≡ gate (t && on v bit) (Some (words v ops))
taken_shown v l t bit ops e f =
    ap (λ (s : Sig). gate t (gate (on v s) (Some (words v l.words.items)))) e ∙ ap (λ (xs : List Sig). gate t (gate (on v bit) (Some (words v xs)))) f
    ∙ sym (gates_both t (on v bit) (Some (words v ops)))

bit_fits : (n : Netlist) (o : Option Load) (ws : List ℕ) → FitsIn n o ws → IsBitIn n (bit_of o)
bit_fits n None ws h = tt
bit_fits n (Some l) ws h = h.bit

gate_some : {A : Type 0} (b : Bool) (x : A) → b ≡ is_some (gate b (Some x))
gate_some true x = refl
gate_some false x = refl

bit_shows : (v : Val) (o : Option Load) → on_in v (bit_of o) ≡ is_some (taken_in v o)
bit_shows v None = refl
bit_shows v (Some l) = gate_some (on v l.bit) (words v l.words.items)

-- ---- rows of bits

-- so many rows of bits, which show this
pub record BitRows (n : Netlist) (rows : List (Vec Sig Global)) (count : ℕ) (says : Val → ℕ → Bool) : Type 0 where
  pub entries : length rows ≡ count
  pub fits : RowsAreBits n rows
  pub shows : (v : Val) (i : ℕ) → any_at v rows i ≡ says v i

pub bare_bit_rows : (n : Netlist) (rows : List (Vec Sig Global)) (count : ℕ) (t : Val → ℕ → ℕ → Bool) → length rows ≡ count →
    ((i : ℕ) → row_at rows i ≡ []) → BitRows n rows count (λ v i. one_below (t v i) 0)
bare_bit_rows n rows count t e h = record {
  entries = e;
  fits = λ i. subst (AreBits n) (sym (h i)) tt;
  shows = λ v i. ap (on_any v) (h i) ∙ sym (below_zero (t v i));
}

pub more_bit_rows : (n : Netlist) (rows after : List (Vec Sig Global)) (count place m : ℕ) (s : Sig) (t : Val → ℕ → ℕ → Bool) → BitRows n rows count
    (λ v i. one_below (t v i) m) → length after ≡ length rows
    → ((i : ℕ) → row_at after i ≡ row_at rows i ++ cond (i == place) (s ∷ []) []) → IsSource n s 1 →
    ((v : Val) (i : ℕ) → ((i == place) && on v s) ≡ t v i m) → BitRows n after count (λ v i. one_below (t v i) (m + 1))
more_bit_rows n rows after count place m s t h e r f q = record {
  entries = e ∙ h.entries;
  fits = λ i. bits_pushed n (row_at rows i) (row_at after i) (i == place) s (r i) (h.fits i) f;
  shows = λ v i.
      any_pushed v (row_at rows i) (row_at after i) (i == place) s (r i) ∙ ap (λ (x : Bool). x || ((i == place) && on v s)) (h.shows v i) ∙ ap
      (λ (x : Bool). one_below (t v i) m || x) (q v i) ∙ sym (below_more (t v i) m);
}

-- the bits of loads in rows, one after another
pub load_rows_more : (rows : List (Vec Sig Global)) (xs : List (Option Load)) (r : Vec Sig Global) (x : Option Load) → length rows ≡ length xs →
    ((j : ℕ) → row_at rows j ≡ maybe_one (bit_of (entry_in (slice_get xs j)))) → r.items ≡ maybe_one (bit_of x)
    → (j : ℕ) → row_at (rows ++ r ∷ []) j ≡ maybe_one (bit_of (entry_in (slice_get (xs ++ x ∷ []) j)))
load_rows_more [] [] r x e h q zero = q
load_rows_more [] [] r x e h q (suc j) = refl
load_rows_more [] (y ∷ xs) r x e h q j = absurd (omega (arith, e))
load_rows_more (y ∷ rows) [] r x e h q j = absurd (omega (arith, e))
load_rows_more (y ∷ rows) (z ∷ xs) r x e h q zero = h 0
load_rows_more (y ∷ rows) (z ∷ xs) r x e h q (suc j) = load_rows_more rows xs r x (omega (arith, e)) (λ i. h (suc i)) q j

maybe_on : (v : Val) (o : Option Sig) → on_any v (maybe_one o) ≡ on_in v o
maybe_on v None = refl
maybe_on v (Some s) = sym (or_none (on v s))

maybe_alone : (n : Netlist) (o : Option Sig) → IsBitIn n o → AreBits n (maybe_one o)
maybe_alone n None h = tt
maybe_alone n (Some s) h = (h, tt)

pub start_load_rows : (n : Netlist) (rows : List (Vec Sig Global)) (xs : List (Option Load)) (count : ℕ) (ws : ℕ → List ℕ) (t : Val → ℕ → ℕ → Bool) →
    length rows ≡ count → SomeFit n xs ws → ((i : ℕ) → row_at rows i ≡ maybe_one (bit_of (entry_in (slice_get xs i))))
    → BitRows n rows count (λ v i. is_some (taken_from v xs i) || one_below (t v i) 0)
start_load_rows n rows xs count ws t e h q = record {
  entries = e;
  fits = λ i. subst (AreBits n) (sym (q i)) (maybe_alone n (bit_of (entry_in (slice_get xs i))) (bit_fits n (entry_in (slice_get xs i)) (ws i) (h i)));
  shows = λ v i.
      ap (on_any v) (q i) ∙ maybe_on v (bit_of (entry_in (slice_get xs i))) ∙ bit_shows v (entry_in (slice_get xs i))
      ∙ or_none (is_some (taken_from v xs i)) ∙ ap (λ (b : Bool). is_some (taken_from v xs i) || b) (sym (below_zero (t v i)));
}

one_joins : (o : Option Sig) → bit_joins (maybe_one o) ≡ 0
one_joins None = refl
one_joins (Some s) = refl

pub load_rows_total : (rows : List (Vec Sig Global)) (bits : ℕ → Option Sig) → ((i : ℕ) → row_at rows i ≡ maybe_one (bits i)) → total bit_joins rows ≡ 0
load_rows_total [] bits h = refl
load_rows_total (x ∷ rows) bits h =
    let a : bit_joins x.items ≡ bit_joins (maybe_one (bits 0)) = ap bit_joins (h 0) in
    let b = one_joins (bits 0) in
    let d = load_rows_total rows (λ i. bits (suc i)) (λ i. h (suc i)) in
    omega (arith, a, b, d)

pub more_some_rows : (n : Netlist) (rows after : List (Vec Sig Global)) (count place m : ℕ) (bit : Option Sig) (base : Val → ℕ → Bool)
    (t : Val → ℕ → ℕ → Bool) → BitRows n rows count (λ v i. base v i || one_below (t v i) m) → length after ≡ length rows
    → ((i : ℕ) → row_at after i ≡ row_at rows i ++ cond (i == place) (maybe_one bit) []) → IsBitIn n bit →
    ((v : Val) (i : ℕ) → ((i == place) && on_in v bit) ≡ t v i m) → BitRows n after count (λ v i. base v i || one_below (t v i) (m + 1))
more_some_rows n rows after count place m bit base t h e r f q = record {
  entries = e ∙ h.entries;
  fits = λ i. subst (AreBits n) (sym (r i)) (maybe_fits n (row_at rows i) (i == place) bit (h.fits i) f);
  shows = λ v i.
      any_next v (row_at rows i) (row_at after i) (i == place) bit (r i) ∙ ap (λ (x : Bool). x || ((i == place) && on_in v bit)) (h.shows v i) ∙
      or_assoc (base v i) (one_below (t v i) m) ((i == place) && on_in v bit)
      ∙ ap (λ (x : Bool). base v i || (one_below (t v i) m || x)) (q v i) ∙ ap (λ (x : Bool). base v i || x) (sym (below_more (t v i) m));
}

pub joined_bits : (a b : Netlist) (rows : List (Vec Sig Global)) (bits : List (Option Sig)) (count : ℕ) (says : Val → ℕ → Bool) → BitRows a rows count
    says → length bits ≡ length rows → ((i : ℕ) → IsAnyOf b (row_at rows i) (entry_in (slice_get bits i)))
    → ShowsBits b bits count says
joined_bits a b rows bits count says h e j = record { entries = e ∙ h.entries; fits = λ i. (j i).fits; shows = λ v w i. (j i).shows v w ∙ h.shows v i }

-- ---- the outcomes

pub operands_fit : (a b : Netlist) (k : ℕ) (xs ys : List Sig) (ws us : List ℕ) → Builds a b k → AreSources a xs ws → ys ≡ xs → us ≡ ws → AreSources b ys us
operands_fit a b k xs ys ws us built h e f = subst (λ (l : List ℕ). AreSources b ys l) (sym f) (subst (λ (l : List Sig). AreSources b l ws) (sym e) (sources_kept built h))

pub record EndThere (C : Program) (n : Netlist) (o : Outcomes) (f : ℕ) (l : Load) : Type 0 where
  pub get : slice_get o.ends.items f ≡ Some l
  pub bit : IsSource n l.bit 1
  pub words : AreSources n l.words.items (C.result f ∷ [])
  pub count : length l.words.items ≡ 1

pub end_there : (C : Program) (n : Netlist) (o : Outcomes) (f : ℕ) (l : Load) → OutcomesFit C n o → f < C.functions → l ≡ slice_index_or o.ends.items f l → EndThere C n o f l
end_there C n o f l h m e =
    let a = h.ends_length in
    let k : f < length o.ends.items = omega (arith, a, m) in
    let g = slice_get_read o.ends.items (length o.ends.items) f l refl k e in
    let q = h.ends f l g in
    record { get = g; bit = q.bit; words = q.words; count = sources_length n l.words.items (C.result f ∷ []) q.words }

pub record WantThere (C : Program) (n : Netlist) (o : Outcomes) (k : ℕ) (l : Load) : Type 0 where
  pub get : slice_get o.wants.items k ≡ Some l
  pub words : AreSources n l.words.items (C.params (C.callee k))
  pub count : length l.words.items ≡ arity C (C.callee k)

pub want_there : (C : Program) (n : Netlist) (o : Outcomes) (k : ℕ) (l : Load) → OutcomesFit C n o → k ≤ C.sites → l ≡ slice_index_or o.wants.items k l → WantThere C n o k l
want_there C n o k l h m e =
    let a = h.wants_length in
    let j : k < length o.wants.items = omega (arith, a, m) in
    let g = slice_get_read o.wants.items (length o.wants.items) k l refl j e in
    let q = h.wants k l g in
    record { get = g; words = q.words; count = sources_length n l.words.items (C.params (C.callee k)) q.words }

pub loop_there : (C : Program) (n : Netlist) (o : Outcomes) (f : ℕ) (l : Option Load) → OutcomesFit C n o → f < C.functions → l ≡ slice_index_or o.loops.items f l → slice_get o.loops.items f ≡ Some l
loop_there C n o f l h m e =
    let a = h.loops_length in
    let k : f < length o.loops.items = omega (arith, a, m) in
    slice_get_read o.loops.items (length o.loops.items) f l refl k e

-- what an end adds, and what a want
pub end_shown : (C : Program) (v : Val) (n : Netlist) (o : Outcomes) (f i place : ℕ) (l : Load) (ops : List Sig) → EndThere C n o f l → ops ≡ l.words.items → place ≡ C.unit f
    → gate ((i == place) && on v l.bit) (Some (words v ops)) ≡ gate (i == C.unit f) (taken_at v o.ends.items f)
end_shown C v n o f i place l ops h d p =
    ap (λ (xs : List Sig). gate ((i == place) && on v l.bit) (Some (words v xs))) d ∙ gates_both (i == place) (on v l.bit) (Some (words v l.words.items))
    ∙ ap (λ (x : ℕ). gate (i == x) (taken v l)) p ∙ ap (λ (x : Option Load). gate (i == C.unit f) (taken_in v x)) (sym h.get)

pub want_shown : (C : Program) (v : Val) (n : Netlist) (o : Outcomes) (k i place : ℕ) (l : Load) (ops : List Sig) (bit : Sig) → WantThere C n o k l → ops ≡ l.words.items → place ≡ C.callee k
    → gate ((i == place) && on v bit) (Some (words v ops)) ≡ gate ((i == C.callee k) && on v bit) (operands_in v (slice_get o.wants.items k))
want_shown C v n o k i place l ops bit h d p =
    ap (λ (xs : List Sig). gate ((i == place) && on v bit) (Some (words v xs))) d
    ∙ ap (λ (x : ℕ). gate ((i == x) && on v bit) (Some (words v l.words.items))) p ∙ ap (λ (x : Option Load). gate ((i == C.callee k) && on v bit) (operands_in v x)) (sym h.get)

-- ---- the bits of loads

pub load_bit_fits : (n : Netlist) (o : Option Load) (b : Option Sig) (ws : List ℕ) → b ≡ bit_of o → FitsIn n o ws → IsBitIn n b
load_bit_fits n o b ws e h = subst (λ (x : Option Sig). IsBitIn n x) (sym e) (bit_fits n o ws h)

pub load_bit_shows : (v : Val) (o : Option Load) (b : Option Sig) → b ≡ bit_of o → on_in v b ≡ is_some (taken_in v o)
load_bit_shows v o b e = ap (on_in v) e ∙ bit_shows v o

bit_there : (xs : List (Option Load)) (i : ℕ) → entry_in (slice_get (map bit_of xs) i) ≡ bit_of (entry_in (slice_get xs i))
bit_there [] i = refl
bit_there (x ∷ xs) zero = refl
bit_there (x ∷ xs) (suc i) = bit_there xs i

bits_there : (xs : List (Option Load)) → length (map bit_of xs) ≡ length xs
bits_there [] = refl
bits_there (x ∷ xs) = let h = bits_there xs in omega (arith, h)

pub bits_of_loads : (n : Netlist) (xs : List (Option Load)) (bits : List (Option Sig)) (count : ℕ) (ws : ℕ → List ℕ) → length xs ≡ count → SomeFit n
    xs ws → bits ≡ map bit_of xs → ShowsBits n bits count (λ v i. is_some (taken_from v xs i))
bits_of_loads n xs bits count ws e h q = subst (λ (l : List (Option Sig)). ShowsBits n l count (λ v i. is_some (taken_from v xs i))) (sym q) record {
  entries = bits_there xs ∙ e;
  fits = λ i. subst (λ (o : Option Sig). IsBitIn n o) (sym (bit_there xs i)) (bit_fits n (entry_in (slice_get xs i)) (ws i) (h i));
  shows = λ v w i. ap (on_in v) (bit_there xs i) ∙ bit_shows v (entry_in (slice_get xs i));
}

pub bits_next : (xs : List (Option Load)) (i : ℕ) (x : Option Load) → slice_get xs i ≡ Some x → map bit_of (take (suc i) xs) ≡ map bit_of (take i xs) ++ bit_of x ∷ []
bits_next [] i x e = absurd (cc)
bits_next (y ∷ xs) zero x e = let q : y ≡ x = cc in ap (λ (z : Option Load). bit_of z ∷ []) q
bits_next (y ∷ xs) (suc i) x e = ap (λ (l : List (Option Sig)). bit_of y ∷ l) (bits_next xs i x e)

pub loop_fits : (C : Program) (n : Netlist) (o : Outcomes) (h : ℕ) (l : Option Load) (bit : Option Sig) → OutcomesFit C n o → slice_get o.loops.items h ≡ Some l → bit ≡ bit_of l → IsBitIn n bit
loop_fits C n o h l bit f e q =
    subst (λ (b : Option Sig). IsBitIn n b) (sym q) (bit_fits n l (C.params h) (subst (λ (x : Option (Option Load)). FitsIn n (entry_in x) (C.params h)) e (f.loops h)))

pub loop_shown : (v : Val) (o : Outcomes) (h i place to : ℕ) (l : Option Load) (bit : Option Sig) → slice_get o.loops.items h ≡ Some l → bit ≡ bit_of l → place ≡ to
    → ((i == place) && on_in v bit) ≡ ((i == to) && is_some (taken_from v o.loops.items h))
loop_shown v o h i place to l bit e q p =
    ap (λ (b : Option Sig). (i == place) && on_in v b) q ∙ ap (λ (b : Bool). (i == place) && b) (bit_shows v l)
    ∙ ap (λ (x : ℕ). (i == x) && is_some (taken_in v l)) p ∙ ap (λ (x : Option (Option Load)). (i == to) && is_some (taken_in v (entry_in x))) (sym e)
