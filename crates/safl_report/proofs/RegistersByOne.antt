-- Registers, one signal more.
use Rattle.std.proofs.Common.{◌≡◌, ℕ, ◌+◌, ◌<◌, Bool, true, false, cond, List, [], ◌∷◌, ◌++◌, length, take, Option, Some, sym, ap, ◌∙◌, arith, length-append, append-nil}
use Rattle.std.specs.Prelude.{slice_get}
use Rattle.std.proofs.lemmas.List.Elements.{filter_more}
use Rattle.std.proofs.lemmas.List.Sums.{sum_by-append}
use Rattle.std.proofs.lemmas.Option.{get_or_from_slice_get}
use Rattle.safl_word.proofs.Lists.{get_some}
use Rattle.safl_net.specs.Netlist.{Netlist, Signal, width_of, width_in, is_register}
use Rattle.safl_net.specs.Making.{kind_at, kind_in}
use Rattle.safl_report.specs.Report.{registers, bits_of}

-- the registers of one more signal
more : (xs : List Signal) (i : ℕ) (g : Signal) → i < length xs → slice_get xs i ≡ Some g → registers (take (i + 1) xs) ≡ registers (take i xs) ++ cond (is_register g.kind) (g ∷ []) []
more xs i g lt e =
    filter_more (λ (x : Signal). is_register x.kind) xs i g lt ∙ ap (λ (x : Signal). registers (take i xs) ++ cond (is_register x.kind) (x ∷ []) []) (get_or_from_slice_get xs i g g e)

longer : (xs : List Signal) (g : Signal) (b : Bool) → length (xs ++ cond b (g ∷ []) []) ≡ length xs + cond b 1 0
longer xs g true = length-append xs (g ∷ [])
longer xs g false = ap length (append-nil xs) ∙ plain
  where
    plain : length xs ≡ length xs + 0
    plain = omega arith

wider : (xs : List Signal) (g : Signal) (b : Bool) → bits_of (xs ++ cond b (g ∷ []) []) ≡ bits_of xs + cond b g.width 0
wider xs g true = sum_by-append (λ (x : Signal). x.width) xs (g ∷ []) ∙ ap (λ (m : ℕ). bits_of xs + m) plain
  where
    plain : 0 + g.width ≡ g.width
    plain = omega arith
wider xs g false = ap bits_of (append-nil xs) ∙ plain
  where
    plain : bits_of xs ≡ bits_of xs + 0
    plain = omega arith

pub count_more : (n : Netlist) (i count : ℕ) (b : Bool) → i < length n.signals → count ≡ length (registers (take i n.signals)) → b ≡ is_register
    (kind_at n i) → count + cond b 1 0 ≡ length (registers (take (i + 1) n.signals))
count_more n i count b lt h is =
    let there = get_some n.signals i lt in
    let g = there.0 in
    let kind : b ≡ is_register g.kind = is ∙ ap (λ (o : Option Signal). is_register (kind_in o)) there.1 in
    ap (λ (m : ℕ). m + cond b 1 0) h ∙ ap (λ (c : Bool). length (registers (take i n.signals)) + cond c 1 0) kind
    ∙ sym (ap length (more n.signals i g lt there.1) ∙ longer (registers (take i n.signals)) g (is_register g.kind))

pub bits_more : (n : Netlist) (i bits : ℕ) (b : Bool) → i < length n.signals → bits ≡ bits_of (registers (take i n.signals)) → b ≡ is_register
    (kind_at n i) → bits + cond b (width_of n i) 0 ≡ bits_of (registers (take (i + 1) n.signals))
bits_more n i bits b lt h is =
    let there = get_some n.signals i lt in
    let g = there.0 in
    let kind : b ≡ is_register g.kind = is ∙ ap (λ (o : Option Signal). is_register (kind_in o)) there.1 in
    let width : width_of n i ≡ g.width = ap width_in there.1 in
    ap (λ (m : ℕ). m + cond b (width_of n i) 0) h ∙ ap (λ (c : Bool). bits_of (registers (take i n.signals)) + cond c (width_of n i) 0) kind
    ∙ ap (λ (w : ℕ). bits_of (registers (take i n.signals)) + cond (is_register g.kind) w 0) width
    ∙ sym (ap bits_of (more n.signals i g lt there.1) ∙ wider (registers (take i n.signals)) g (is_register g.kind))
