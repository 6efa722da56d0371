-- Where the registers and named wires of a circuit stand, and what they take.
use Rattle.safl_unit.proofs.Common.{AreSources, Bank, CheckedProgram, Choice, Controls, EachAt, Grows, IsChecked, IsSettled, IsSource}
use Rattle.safl_unit.proofs.Common.{IsSteady, IsTidy, MemberPins, Names, Pins, Program, Says, Settles, Sig, SitePins, UnitPins, codes}
use Rattle.safl_unit.proofs.Common.{kind_in, length-map, many, pin, slice_get_within, sources_length, unit_for, with_output}
use Rattle.std.proofs.Common.{◌≡◌, ℕ, zero, suc, ◌+◌, ◌-◌, ◌<◌, ◌≤◌, List, [], ◌∷◌, ◌++◌, map, length, length-append, Option, Some, None, Bool, true}
use Rattle.std.proofs.Common.{false, cond, slice_get, nat_lt, ◌==◌, ◌⊎◌, inl, inr, refl, sym, ap, subst, ◌∙◌, arith, append_assoc}
use Rattle.std.proofs.lemmas.Bool.{ltb-true}
use Rattle.safl_word.proofs.Lists.{get_front, get_map}
use Rattle.safl_net.specs.Netlist.{Netlist, Signal, Reg, Wire, width_in, width_of}
use Rattle.safl_net.proofs.Growth.{within, width_is}
use Rattle.safl_net.proofs.Settling.{settles_on, settles_output}
use Rattle.safl_net.proofs.Saying.{says_on, says_output}
use Rattle.safl_circuit.specs.Names.{of_function, of_site, of_param}
use Rattle.safl_circuit.specs.Layout.{named, layout_inputs, layout_registers, layout_wires}
use Rattle.safl_unit.specs.Cycles.{BankFits}
use Rattle.safl_unit.specs.Ties.{Tie, line_of, sig_of, ties, tied, unit_ties, member_ties, function_ties, call_registers, site_ties, register_ties, want_wire, body_ties, call_ties, wire_ties}
use Rattle.safl_unit.specs.Finished.{input_line, open_register, open_wire, set_register, set_wire, declared_net, ArePins, ControlsFit, Finishes}
use Rattle.safl_unit.specs.Setting.{with_kinds, next_kind, copy_kind, Takes, IsSet}
use Rattle.safl_unit.proofs.layout.Lining.{register_lines, there}
use Rattle.safl_unit.proofs.assembly.Listing.{wire_lines, bodies_long, calls_long}
use Rattle.safl_unit.proofs.assembly.Setting.{kinded, takes_kept, kinds_list, kinds_long, kinds_names, kinds_outputs, registers_set, wires_set, IsOpen}
use Rattle.safl_unit.proofs.assembly.Setting.{settles_nexts, settles_copies, says_nexts, says_copies, tidy_kinds}

-- ---- ties that are numbered from i on

abbrev pub EachFrom : (ℕ → Tie → Type 0) → ℕ → List Tie → Type 0
EachFrom Q i [] = Unit {0}
EachFrom Q i (t ∷ ts) = Q i t × EachFrom Q (suc i) ts

from_at : (Q : ℕ → Tie → Type 0) (i j : ℕ) (ts : List Tie) → i ≡ j → EachFrom Q i ts → EachFrom Q j ts
from_at Q i j ts e h = subst (λ k. EachFrom Q k ts) e h

from_more : (Q : ℕ → Tie → Type 0) (i : ℕ) (xs ys : List Tie) → EachFrom Q i xs → EachFrom Q (i + length xs) ys → EachFrom Q i (xs ++ ys)
from_more Q i [] ys a b = from_at Q (i + 0) i ys (omega arith) b
from_more Q i (x ∷ xs) ys a b = (a.0, from_more Q (suc i) xs ys a.1 (from_at Q (i + suc (length xs)) (suc i + length xs) ys (omega arith) b))

from_ties : (Q : ℕ → Tie → Type 0) (i : ℕ) (g : ℕ → List Tie) (n : ℕ) → ((j : ℕ) → j < n → EachFrom Q (i + length (ties g j)) (g j)) → EachFrom Q i (ties g n)
unfolding ties
from_ties Q i g zero f = tt
from_ties Q i g (suc n) f = from_more Q i (ties g n) (g n) (from_ties Q i g n (λ j l. f j (omega (arith, l)))) (f n (omega arith))

from_cond : (Q : ℕ → Tie → Type 0) (i : ℕ) (b : Bool) (ts : List Tie) → (b ≡ true → EachFrom Q i ts) → EachFrom Q i (cond b ts [])
from_cond Q i true ts f = f refl
from_cond Q i false ts f = tt

pub from_get : (Q : ℕ → Tie → Type 0) (i : ℕ) (ts : List Tie) (j : ℕ) (t : Tie) → EachFrom Q i ts → slice_get ts j ≡ Some t → Q (i + j) t
from_get Q i [] j t h e = absurd (cc)
from_get Q i (x ∷ ts) zero t h e = let q : x ≡ t = cc in subst (λ k. Q k t) (let r : i ≡ i + 0 = omega arith in r) (subst (Q i) q h.0)
from_get Q i (x ∷ ts) (suc j) t h e = subst (λ k. Q k t) (let r : suc i + j ≡ i + suc j = omega arith in r) (from_get Q (suc i) ts j t h.1 e)

-- an entry of the signals is one of the ties
sig_get : (ts : List Tie) (i : ℕ) (s : Sig) → slice_get (map sig_of ts) i ≡ Some s → (t : Tie) × (slice_get ts i ≡ Some t) × (t.1 ≡ s)
sig_get [] i s e = absurd (cc)
sig_get (t ∷ ts) zero s e = (t, refl, (let q : t.1 ≡ s = cc in q))
sig_get (t ∷ ts) (suc i) s e = sig_get ts i s e

each_sig : (ts : List Tie) (Q : ℕ → Sig → Type 0) → ((i : ℕ) (t : Tie) → slice_get ts i ≡ Some t → Q i t.1) → EachAt (map sig_of ts) Q
each_sig ts Q f i s e = let q = sig_get ts i s e in subst (Q i) q.2 (f i q.0 q.1)

-- a signal that is made of a line
pub at_made : {A : Type 0} (front back : List Signal) (make : A → Signal) (ls : List A) (s i : ℕ) (l : A) → s ≡ length front + i → slice_get ls i ≡
    Some l → slice_get (front ++ (map make ls ++ back)) s ≡ Some (make l)
at_made [] back make ls s i l q e = ap (λ j. slice_get (map make ls ++ back) j) (let r : s ≡ i = omega (arith, q) in r) ∙ get_front (map make ls) back i (make l) (get_map make ls i l e)
at_made (g ∷ front) back make ls zero i l q e = absurd (omega (arith, q))
at_made (g ∷ front) back make ls (suc s) i l q e = at_made front back make ls s i l (omega (arith, q)) e

-- ---- the registers take signals of their widths

abbrev pub TakesNext : Netlist → ℕ → Tie → Type 0
TakesNext n i t = IsSource n t.1 t.0.1

args_from : (n : Netlist) (i : ℕ) (xs : List (List ℕ)) (ws : List ℕ) (ss : List Sig) → AreSources n ss ws → EachFrom (TakesNext n) i (tied (named xs ws) ss)
args_from n i [] ws ss h = tt
args_from n i (x ∷ xs) [] ss h = tt
args_from n i (x ∷ xs) (w ∷ ws) [] h = tt
args_from n i (x ∷ xs) (w ∷ ws) (s ∷ ss) h = (record { width = h.widths.0; steady = h.steady.0 }, args_from n (suc i) xs ws ss (record { widths = h.widths.1; steady = h.steady.1 }))

module _ (C : Program) (D : Names) (P : Choice) (n : Netlist) (b : Bank) (h : BankFits C n b) where
  unit_from : (i f : ℕ) (o : Option UnitPins) → slice_get b.units.items f ≡ o → EachFrom (TakesNext n) i (unit_ties C D f o)
  unit_from i f None e = tt
  unit_from i f (Some u) e = let q = h.units f u e in from_cond (TakesNext n) i (C.unit f == f)
      (((of_function D (codes "run$") f, 1), u.run) ∷ ((of_function D (codes "fin$") f, 1), u.fin) ∷
      ((of_function D (codes "res$") f, C.result f), u.res) ∷ []) (λ own. (q.run, (q.fin, (q.res, tt))))

  member_from : (i f : ℕ) (o : Option MemberPins) → slice_get b.members.items f ≡ o → EachFrom (TakesNext n) i (member_ties C D f o)
  member_from i f None e = tt
  member_from i f (Some m) e =
      let q = h.members f m e in
      from_more (TakesNext n) i (cond (many C f) (((of_function D (codes "at$") f, 1), m.at) ∷ []) []) _
      (from_cond (TakesNext n) i (many C f) (((of_function D (codes "at$") f, 1), m.at) ∷ []) (λ more. (q.at, tt)))
      (args_from n _ (map (of_param D f) (D.params f)) (C.params f) m.args.items q.args)

  site_from : (i k : ℕ) (o : Option SitePins) → slice_get b.sites.items k ≡ o → EachFrom (TakesNext n) i (call_registers C P k o)
  site_from i k None e = tt
  site_from i k (Some s) e =
      from_cond (TakesNext n) i (nat_lt 0 k)
      (((of_site (codes "sent$") k, 1), s.sent) ∷ ((of_site (codes "got$") k, 1), s.got) ∷ cond (P.kept k) (((of_site (codes "keep$") k, C.result (C.callee k)), s.keep) ∷ []) [])
      (λ pos.
      let q = h.sites k s e (ltb-true 0 k pos) in
      (q.sent, (q.got, from_cond (TakesNext n) (suc (suc i)) (P.kept k) (((of_site (codes "keep$") k, C.result (C.callee k)), s.keep) ∷ []) (λ kept. (q.keep, tt)))))

  pub registers_from : EachFrom (TakesNext n) 0 (register_ties C D P b)
  registers_from =
      from_more (TakesNext n) 0 (ties (function_ties C D b.units.items b.members.items) C.functions) _
      (from_ties (TakesNext n) 0 (function_ties C D b.units.items b.members.items) C.functions
      (λ f l. from_more (TakesNext n) _ (unit_ties C D f (slice_get b.units.items f)) _ (unit_from _ f (slice_get b.units.items f) refl) (member_from _ f (slice_get b.members.items f) refl)))
      (from_ties (TakesNext n) _ (site_ties C P b.sites.items) (suc C.sites) (λ k l. site_from _ k (slice_get b.sites.items k) refl))

-- ---- the named wires copy bits that may be read, or one another in order

record Copies (n : Netlist) (first i : ℕ) (t : Tie) : Type 0 where
  width : t.0.1 ≡ 1
  source : IsSource n t.1 1 ⊎ ((first ≤ t.1.0) × (t.1.0 < i))

module _ (C : Program) (D : Names) (P : Choice) (n : Netlist) (first : ℕ) (T : Controls) (h : ControlsFit C n T) where
  abbrev four : ℕ → Bool → List Tie
  four k b =
      ((of_site (codes "want$") k, 1), pin T.wants.items k)
      ∷ ((of_site (codes "ret$") k, 1), pin T.rets.items k)
      ∷ (cond b (((of_site (codes "arb$") k, 1), pin T.goes.items k) ∷ []) [] ++ ((of_site (codes "go$") k, 1), cond b (pin T.goes.items k) (record { 0 = want_wire C P first k })) ∷ [])

  call_from : (i k : ℕ) (b : Bool) → 0 < k → k ≤ C.sites → i ≡ want_wire C P first k → EachFrom (Copies n first) i (four k b)
  call_from i k true pos le e = (
    record { width = refl; source = inl (h.wants k pos le) },
    (record { width = refl; source = inl (h.rets k pos le) }, (record { width = refl; source = inl (h.goes k le) }, (record { width = refl; source = inl (h.goes k le) }, tt))),
  )
  call_from i k false pos le e = (
    record { width = refl; source = inl (h.wants k pos le) },
    (record { width = refl; source = inl (h.rets k pos le) }, (record { width = refl; source = inr (omega arith, omega (arith, e)) }, tt)),
  )

  wires_from : EachFrom (Copies n first) first (wire_ties C D P first T)
  wires_from =
      let bodies = ties (body_ties D T) C.functions in
      let calls = ties (call_ties C P first T) (suc C.sites) in
      let long = bodies_long C D P first T C.functions in
      from_more (Copies n first) first bodies _
      (from_ties (Copies n first) first (body_ties D T) C.functions (λ f l. (record { width = refl; source = inl (h.ends f l) }, (record { width = refl; source = inl (h.loops f l) }, tt))))
      (from_more (Copies n first) (first + length bodies) calls _
      (from_ties (Copies n first) (first + length bodies) (call_ties C P first T) (suc C.sites)
      (λ k l. from_cond (Copies n first) (first + length bodies + length (ties (call_ties C P first T) k)) (nat_lt 0 k) (four k (P.arbiter (unit_for C k)))
      (λ pos.
      let q = calls_long C D P first T k in
      call_from (first + length bodies + length (ties (call_ties C P first T) k)) k (P.arbiter (unit_for C k)) (ltb-true 0 k pos) (omega (arith, l)) (omega (arith, long, q)))))
      (record { width = refl; source = inl (h.goes 0 (omega arith)) }, tt))

-- ---- the net when all is set

module _ (c : CheckedProgram) (h : IsChecked c) (P : Choice) (old : Netlist) (p : Pins) (next : Bank) (T : Controls) (grown : Grows (declared_net c.program c.names P) old)
    (pins : ArePins c.program c.names P p) (bank : BankFits c.program old next) (controls : ControlsFit c.program old T) where
  abbrev C : Program
  C = c.program

  abbrev D : Names
  D = c.names

  abbrev rts : List Tie
  rts = register_ties C D P next

  abbrev wts : List Tie
  wts = wire_ties C D P p.first_wire T

  abbrev inputs : List Signal
  inputs = map input_line (layout_inputs C D)

  abbrev registers : List Signal
  registers = map open_register (map line_of rts)

  abbrev wires : List Signal
  wires = map open_wire (map line_of wts)

  abbrev more : List Signal
  more = grown.more

  register_lines_are : map line_of rts ≡ layout_registers C D P
  register_lines_are = register_lines c h P next (record {
    units = bank.units_length;
    members = bank.members_length;
    sites = bank.sites_length;
    args = λ f m e. sources_length old m.args.items (C.params f) (bank.members f m e).args;
  })

  wire_lines_are : map line_of wts ≡ layout_wires C D P
  wire_lines_are = wire_lines C D P p.first_wire T

  base : old.signals ≡ inputs ++ (registers ++ (wires ++ more))
  base =
      grown.is
      ∙ ap (λ r. (inputs ++ (map open_register r ++ map open_wire (layout_wires C D P))) ++ more) (sym register_lines_are)
      ∙ ap (λ w. (inputs ++ (registers ++ map open_wire w)) ++ more) (sym wire_lines_are)
      ∙ append_assoc inputs (registers ++ wires) more ∙ ap (λ l. inputs ++ l) (append_assoc registers wires more)

  first_long : p.first_register ≡ length inputs
  first_long = pins.first_register ∙ sym (length-map (layout_inputs C D) input_line)

  registers_long : length registers ≡ length rts
  registers_long = length-map (map line_of rts) open_register ∙ length-map rts line_of

  wires_long : length wires ≡ length wts
  wires_long = length-map (map line_of wts) open_wire ∙ length-map wts line_of

  pub first_wire_is : p.first_wire ≡ p.first_register + length rts
  first_wire_is = pins.first_wire ∙ ap (λ x. p.first_register + x) (sym (ap length register_lines_are) ∙ length-map rts line_of)

  front_long : p.first_wire ≡ length (inputs ++ registers)
  front_long =
      let a = first_wire_is in
      let b = length-append inputs registers in
      let d = registers_long in
      let e = first_long in
      omega (arith, a, b, d, e)

  pub all_long : length old.signals ≡ p.first_wire + (length wts + length more)
  all_long =
      let a = ap length base in
      let b = length-append inputs (registers ++ (wires ++ more)) in
      let d = length-append registers (wires ++ more) in
      let e = length-append wires more in
      let f = first_long in
      let g = first_wire_is in
      let i = registers_long in
      let j = wires_long in
      omega (arith, a, b, d, e, f, g, i, j)

  wires_first : old.signals ≡ (inputs ++ registers) ++ (wires ++ more)
  wires_first = base ∙ sym (append_assoc inputs registers (wires ++ more))

  at_register : (i : ℕ) (t : Tie) → slice_get rts i ≡ Some t → slice_get old.signals (p.first_register + i) ≡ Some (open_register t.0)
  at_register i t e =
      let a = first_long in
      ap (λ l. slice_get l (p.first_register + i)) base ∙ at_made inputs (wires ++ more) open_register (map line_of rts) (p.first_register + i) i t.0 (omega (arith, a)) (get_map line_of rts i t e)

  at_wire : (i : ℕ) (t : Tie) → slice_get wts i ≡ Some t → slice_get old.signals (p.first_wire + i) ≡ Some (open_wire t.0)
  at_wire i t e =
      let a = front_long in
      ap (λ l. slice_get l (p.first_wire + i)) wires_first ∙ at_made (inputs ++ registers) more open_wire (map line_of wts) (p.first_wire + i) i t.0 (omega (arith, a)) (get_map line_of wts i t e)

  register_takes : (i : ℕ) (t : Tie) → slice_get rts i ≡ Some t → Takes old (p.first_register + i) (Reg 0 None) t.1
  register_takes i t e =
      let q = from_get (TakesNext old) 0 rts i t (registers_from C D P old next bank) e in
      record { kind = ap kind_in (at_register i t e); known = within old t.1.0 t.0.1 q.width; width = width_is old t.1.0 t.0.1 q.width ∙ sym (ap width_in (at_register i t e)) }

  copies_at : (i : ℕ) (t : Tie) → slice_get wts i ≡ Some t → Copies old p.first_wire (p.first_wire + i) t
  copies_at i t e = from_get (Copies old p.first_wire) p.first_wire wts i t (wires_from C D P old p.first_wire T controls) e

  -- a named wire has width 1
  bit_wire : (s i : ℕ) → p.first_wire ≤ s → s < p.first_wire + i → i < length wts → (s < length old.signals) × (width_of old s ≡ 1)
  bit_wire s i l m k =
      let j = s - p.first_wire in
      let e : p.first_wire + j ≡ s = omega (arith, l) in
      let t = there wts j (length wts) refl (omega (arith, l, m, k)) in
      let a = all_long in (
        omega (arith, a, m, k),
        ap (width_of old) (sym e) ∙ ap width_in (at_wire j t.0 t.1) ∙ (copies_at j t.0 t.1).width,
      )

  wire_takes : (i : ℕ) (t : Tie) → slice_get wts i ≡ Some t → i < length wts → Takes old (p.first_wire + i) (Wire None) t.1
  wire_takes i t e k =
      let q = copies_at i t e in
      let r = by q.source in
      record { kind = ap kind_in (at_wire i t e); known = r.0; width = r.1 ∙ sym (ap width_in (at_wire i t e) ∙ q.width) }
    where
      by : (IsSource old t.1 1 ⊎ ((p.first_wire ≤ t.1.0) × (t.1.0 < p.first_wire + i))) → (t.1.0 < length old.signals) × (width_of old t.1.0 ≡ 1)
      by (inl s) = (within old t.1.0 1 s.width, width_is old t.1.0 1 s.width)
      by (inr s) = bit_wire t.1.0 i s.0 s.1 k

  module _ (nexts copies : List Sig) (nexts_are : nexts ≡ map sig_of rts) (copies_are : copies ≡ map sig_of wts) where
    pub nexts_long : length nexts ≡ length rts
    nexts_long = ap length nexts_are ∙ length-map rts sig_of

    pub copies_long : length copies ≡ length wts
    copies_long = ap length copies_are ∙ length-map wts sig_of

    pub registers_take : EachAt nexts (λ i s. Takes old (p.first_register + i) (Reg 0 None) s)
    registers_take = subst (λ l. EachAt l (λ i s. Takes old (p.first_register + i) (Reg 0 None) s)) (sym nexts_are)
        (each_sig rts (λ i s. Takes old (p.first_register + i) (Reg 0 None) s) register_takes)

    module _ (a : Netlist) (set : a ≡ with_kinds old p.first_register (map next_kind nexts)) where
      abbrev half : Netlist
      half = with_kinds old p.first_register (map next_kind nexts)

      past : (i : ℕ) → p.first_register + length (map next_kind nexts) ≤ p.first_wire + i
      past i =
          let x = length-map nexts next_kind in
          let y = nexts_long in
          let z = first_wire_is in
          omega (arith, x, y, z)

      wires_take_half : EachAt copies (λ i s. Takes half (p.first_wire + i) (Wire None) s)
      wires_take_half =
          subst (λ l. EachAt l (λ i s. Takes half (p.first_wire + i) (Wire None) s)) (sym copies_are)
          (each_sig wts (λ i s. Takes half (p.first_wire + i) (Wire None) s)
          (λ i t e. takes_kept old p.first_register (map next_kind nexts) (p.first_wire + i) (Wire None) t.1 (past i) (wire_takes i t e (slice_get_within wts i t e))))

      pub wires_take : EachAt copies (λ i s. Takes a (p.first_wire + i) (Wire None) s)
      wires_take = subst (λ n. EachAt copies (λ i s. Takes n (p.first_wire + i) (Wire None) s)) (sym set) wires_take_half

      module _ (b : Netlist) (set_wires : b ≡ with_kinds a p.first_wire (map copy_kind copies)) where
        abbrev whole : Netlist
        whole = with_kinds half p.first_wire (map copy_kind copies)

        is_whole : b ≡ whole
        is_whole = set_wires ∙ ap (λ n. with_kinds n p.first_wire (map copy_kind copies)) set

        half_signals : half.signals ≡ inputs ++ (map set_register rts ++ (wires ++ more))
        half_signals =
            let x = registers_long in
            let y = length-map nexts next_kind in
            let z = nexts_long in
            kinds_list old p.first_register inputs registers (wires ++ more) (map next_kind nexts) first_long (omega (arith, x, y, z)) base
            ∙ ap (λ l. inputs ++ (l ++ (wires ++ more))) (ap (λ l. kinded registers (map next_kind l)) nexts_are ∙ registers_set rts)

        whole_signals : whole.signals ≡ (inputs ++ (map set_register rts ++ map set_wire wts)) ++ more
        whole_signals =
            let x = wires_long in
            let y = length-map copies copy_kind in
            let z = copies_long in
            let u = length-append inputs (map set_register rts) in
            let v = length-map rts set_register in
            let s = first_long in
            let t = first_wire_is in
            kinds_list half p.first_wire (inputs ++ map set_register rts) wires more (map copy_kind copies) (omega (arith, u, v, s, t))
            (omega (arith, x, y, z)) (half_signals ∙ sym (append_assoc inputs (map set_register rts) (wires ++ more)))
            ∙ ap (λ l. (inputs ++ map set_register rts) ++ (l ++ more)) (ap (λ l. kinded wires (map copy_kind l)) copies_are ∙ wires_set wts)
            ∙ append_assoc inputs (map set_register rts) (map set_wire wts ++ more)
            ∙ ap (λ l. inputs ++ l) (sym (append_assoc (map set_register rts) (map set_wire wts) more))
            ∙ sym (append_assoc inputs (map set_register rts ++ map set_wire wts) more)

        open_wires : IsOpen half p.first_wire (Wire None) copies
        open_wires = λ i s e. (wires_take_half i s e).kind

        open_registers : IsOpen old p.first_register (Reg 0 None) nexts
        open_registers = λ i s e. (registers_take i s e).kind

        first_half : Settles old half
        first_half = settles_nexts old p.first_register nexts

        steady_copies : EachAt copies (λ i s. IsSteady half s.0 ⊎ ((p.first_wire ≤ s.0) × (s.0 < p.first_wire + i)))
        steady_copies =
            subst (λ l. EachAt l (λ i s. IsSteady half s.0 ⊎ ((p.first_wire ≤ s.0) × (s.0 < p.first_wire + i)))) (sym copies_are)
            (each_sig wts (λ i s. IsSteady half s.0 ⊎ ((p.first_wire ≤ s.0) × (s.0 < p.first_wire + i))) (λ i t e. by i t (copies_at i t e).source))
          where
            by : (i : ℕ) (t : Tie) → (IsSource old t.1 1 ⊎ ((p.first_wire ≤ t.1.0) × (t.1.0 < p.first_wire + i))) → IsSteady half t.1.0 ⊎ ((p.first_wire ≤ t.1.0) × (t.1.0 < p.first_wire + i))
            by i t (inl q) = inl (first_half.steady t.1.0 q.steady)
            by i t (inr q) = inr q

        settles_whole : Settles old whole
        settles_whole = settles_on first_half (settles_copies half p.first_wire copies open_wires steady_copies)

        pub all_set : IsSet C D P p next T old b
        all_set = record {
          more = more;
          before = grown.is;
          signals = ap (λ (n : Netlist). n.signals) is_whole ∙ whole_signals;
          outputs = ap (λ (n : Netlist). n.outputs) is_whole ∙ kinds_outputs half p.first_wire (map copy_kind copies) ∙ kinds_outputs old p.first_register (map next_kind nexts) ∙ grown.outputs;
          count = ap (λ (n : Netlist). length n.signals) is_whole ∙ kinds_long half p.first_wire (map copy_kind copies) ∙ kinds_long old p.first_register (map next_kind nexts);
          names = ap (λ (n : Netlist). map (λ (g : Signal). g.name) n.signals) is_whole ∙ kinds_names half p.first_wire (map copy_kind copies) ∙ kinds_names old p.first_register (map next_kind nexts);
          settles = subst (λ n. Settles old n) (sym is_whole) settles_whole;
          says = subst (λ n. Says old n) (sym is_whole) (says_on (says_nexts old p.first_register nexts open_registers) (says_copies half p.first_wire copies open_wires));
        }

        pub all_tidy : IsTidy old → IsTidy b
        all_tidy w =
            subst IsTidy (sym is_whole)
            (tidy_kinds half p.first_wire (Wire None) copy_kind copies (λ s. refl) open_wires (tidy_kinds old p.first_register (Reg 0 None) next_kind nexts (λ s. refl) open_registers w))

-- ---- the outputs

pub finishes : (C : Program) (D : Names) (P : Choice) (p : Pins) (next : Bank) (T : Controls) (main : UnitPins) (old m a b : Netlist) → IsSet C D P p
    next T old m → IsSettled old → slice_get p.bank.units.items C.main ≡ Some main
    → a ≡ with_output m (codes "done") main.fin.0 → b ≡ with_output a (codes "result") main.res.0 → Finishes C D P p next T old b
finishes C D P p next T main old m a b set settled at ea eb = record {
  more = set.more;
  before = set.before;
  signals = ap (λ (n : Netlist). n.signals) eb ∙ ap (λ (n : Netlist). n.signals) ea ∙ set.signals;
  main = main;
  is_main = at;
  outputs =
      ap (λ (n : Netlist). n.outputs) eb ∙ ap (λ (n : Netlist). n.outputs ++ (codes "result", main.res.0) ∷ []) ea
      ∙ ap (λ os. (os ++ (codes "done", main.fin.0) ∷ []) ++ (codes "result", main.res.0) ∷ []) set.outputs;
  acyclic = ((settles_on (settles_output m a (codes "done") main.fin.0 ea) (settles_output a b (codes "result") main.res.0 eb)).settled (set.settles.settled settled)).acyclic;
  says = subst (λ x. Says old x) (sym (eb ∙ ap (λ x. with_output x (codes "result") main.res.0) ea))
      (says_on set.says (says_on (says_output m (codes "done") main.fin.0) (says_output (with_output m (codes "done") main.fin.0) (codes "result") main.res.0)));
}
