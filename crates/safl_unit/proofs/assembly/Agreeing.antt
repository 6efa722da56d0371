-- Registers that a bank shows agree with those that its names show.
use Rattle.safl_unit.proofs.Common.{Agree, Bank, Choice, Names, Program, SitePins, UnitPins, Val, Word, codes, on, unit_for, unwrap_or}
use Rattle.std.proofs.Common.{◌≡◌, ℕ, zero, suc, ◌<◌, List, Some, None, Bool, true, false, cond, not, slice_get, ◌==◌, ◌&&◌, ◌||◌, nat_lt, nat_le, is_some, refl, sym, ap, subst, ◌∙◌, arith}
use Rattle.std.proofs.lemmas.Bool.{eq-eqb, eqb-true, ne_eqb, lt-ltb, ltb-true, leb-true, and_parts, and_right, false≢true}
use Rattle.safl_term.specs.Checked.{CheckedProgram, IsChecked}
use Rattle.safl_term.specs.Readiness.{wanted}
use Rattle.safl_calls.specs.Picks.{first}
use Rattle.safl_calls.proofs.Basics.{all_none}
use Rattle.safl_circuit.specs.Equations.{Registers, Inputs, ends, starts, end_word, go, want, body_wants, path, on_wires, ret, wants_at, clears, next}
use Rattle.safl_circuit.proofs.Searched.{end_in, go_in}
use Rattle.safl_circuit.specs.Names.{of_function, of_site, is_unit, is_site, numbers, view}
use Rattle.safl_unit.specs.Cycles.{BankShows}
use Rattle.safl_unit.proofs.layout.Lining.{IsFull, there}
use Rattle.safl_unit.proofs.assembly.Viewing.{FirstsShow}

cond_none : (b : Bool) → cond b false false ≡ false
cond_none true = refl
cond_none false = refl

module _ (c : CheckedProgram) (h : IsChecked c) (P : Choice) where
  abbrev C : Program
  C = c.program

  abbrev D : Names
  D = c.names

  -- what a function's unit is
  unit_is : (f : ℕ) → f < C.functions → is_unit C (C.unit f) ≡ true
  unit_is f l =
      let q = h.formed.first f l in
      let le = q.0 in
      ap (λ t. t && (C.unit (C.unit f) == C.unit f)) (lt-ltb (C.unit f) C.functions (omega (arith, le, l))) ∙ eq-eqb (C.unit (C.unit f)) (C.unit f) q.1

  not_unit : (u f : ℕ) → f < C.functions → is_unit C u ≡ false → (C.unit f == u) ≡ false
  not_unit u f l free = ne_eqb (C.unit f) u (λ e. absurd (false≢true (sym free ∙ ap (is_unit C) (sym e) ∙ unit_is f l)))

  callee_in : (k : ℕ) → k < suc C.sites → C.callee k < C.functions
  callee_in zero l = subst (λ f. f < C.functions) (sym h.formed.main) h.formed.main_in
  callee_in (suc k) l = (h.formed.calls (suc k) (omega arith) (omega (arith, l))).1

  -- where there is no unit nothing ends or starts
  no_ends : (r : Registers) (u : ℕ) → is_unit C u ≡ false → ends C P r u ≡ None
  unfolding ends
  no_ends r u free = all_none (end_in C P r u) C.functions (λ f l. ap (λ t. cond t (end_word C P r f) None) (not_unit u f l free))

  no_starts : (r : Registers) (i : Inputs) (u : ℕ) → is_unit C u ≡ false → starts C P r i u ≡ None
  unfolding starts
  no_starts r i u free = all_none (go_in C P r i u) (suc C.sites) (λ k l. ap (λ t. cond (t && go C P r i k) (Some k) None) (not_unit u (C.callee k) (callee_in k l) free))

  -- nor is a site called that is not there
  no_want : (r : Registers) (k : ℕ) → nat_le (suc k) C.sites ≡ false → want C P r (suc k) ≡ false
  unfolding body_wants
  no_want r k free =
      ap (λ t. is_some (cond t (cond (path C r (C.caller (suc k))) (wanted (on_wires C P r) (r.arg (C.caller (suc k))) (C.body (C.caller (suc k))) (suc k)) None) None))
      (and_right (not (r.sent (suc k))) (nat_le (suc k) C.sites) free)

  no_go : (r : Registers) (i : Inputs) (k : ℕ) → nat_le (suc k) C.sites ≡ false → go C P r i (suc k) ≡ false
  unfolding go
  no_go r i k free =
      ap (λ t. cond (P.arbiter (unit_for C (suc k))) (t && (not (r.run (unit_for C (suc k))) && not (is_some (first (wants_at C P r (unit_for C (suc k))) (suc k))))) t) (no_want r k free)
      ∙ cond_none (P.arbiter (unit_for C (suc k)))

  module _ (b : Bank) (full : IsFull C b) (w : Val) (now later : List ℕ → ℕ) (i : Inputs)
      (shows : BankShows C P b w (next C P i (view C D now))) (seen : FirstsShow C P b w (view C D later)) where
    abbrev r : Registers
    r = view C D now

    abbrev q : Registers
    q = view C D later

    abbrev n : Registers
    n = next C P i (view C D now)

    -- a unit
    unit_entry : (u : ℕ) → is_unit C u ≡ true → (x : UnitPins) × (slice_get b.units.items u ≡ Some x)
    unit_entry u is = there b.units.items u C.functions full.units (ltb-true u C.functions (and_parts _ _ is).0)

    own : (u : ℕ) → is_unit C u ≡ true → C.unit u ≡ u
    own u is = eqb-true (C.unit u) u (and_parts _ _ is).1

    run_agrees : (u : ℕ) (t : Bool) → is_unit C u ≡ t → q.run u ≡ n.run u
    unfolding next
    run_agrees u true is =
        let x = unit_entry u is in
        sym (seen.units u x.0 (own u is) x.1).run ∙ subst (λ y. on w x.0.run ≡ n.run y) (own u is) (shows.units u x.0 x.1).run
    run_agrees u false is =
        ap (λ t. t && (later (of_function D (codes "run$") u) == 1)) is
        ∙ sym (ap (λ o. cond (is_some o) false (r.run u || is_some (starts C P r i u))) (no_ends r u is)
        ∙ ap (λ o. r.run u || is_some o) (no_starts r i u is)
        ∙ ap (λ t. (t && (now (of_function D (codes "run$") u) == 1)) || false) is)

    fin_agrees : (u : ℕ) (t : Bool) → is_unit C u ≡ t → q.fin u ≡ n.fin u
    unfolding next
    fin_agrees u true is =
        let x = unit_entry u is in
        sym (seen.units u x.0 (own u is) x.1).fin ∙ subst (λ y. on w x.0.fin ≡ n.fin y) (own u is) (shows.units u x.0 x.1).fin
    fin_agrees u false is =
        ap (λ t. t && (later (of_function D (codes "fin$") u) == 1)) is
        ∙ sym (ap is_some (no_ends r u is))

    res_agrees : (u : ℕ) (t : Bool) → is_unit C u ≡ t → (q.res u).bits ≡ (n.res u).bits
    unfolding next
    res_agrees u true is =
        let x = unit_entry u is in
        ap (λ (v : Word). v.bits) (sym (seen.units u x.0 (own u is) x.1).res ∙ subst (λ y. w x.0.res.0 ≡ n.res y) (own u is) (shows.units u x.0 x.1).res)
    res_agrees u false is =
        ap (λ t. cond t (later (of_function D (codes "res$") u)) 0) is
        ∙ sym (ap (λ o. (unwrap_or o (r.res u)).bits) (no_ends r u is) ∙ ap (λ t. cond t (now (of_function D (codes "res$") u)) 0) is)

    -- a site
    site_entry : (k : ℕ) → nat_le k C.sites ≡ true → (x : SitePins) × (slice_get b.sites.items k ≡ Some x)
    site_entry k is = let le = leb-true k C.sites is in there b.sites.items k (suc C.sites) full.sites (omega (arith, le))

    site_false : (k : ℕ) → nat_le (suc k) C.sites ≡ false → is_site C (suc k) ≡ false
    site_false k free = and_right (nat_lt 0 (suc k)) (nat_le (suc k) C.sites) free

    unsent : (k : ℕ) → nat_le (suc k) C.sites ≡ false → r.sent (suc k) ≡ false
    unsent k free = ap (λ t. t && (now (of_site (codes "sent$") (suc k)) == 1)) (site_false k free)

    sent_agrees : (k : ℕ) (t : Bool) → nat_le (suc k) C.sites ≡ t → q.sent (suc k) ≡ n.sent (suc k)
    unfolding next
    sent_agrees k true is =
        let x = site_entry (suc k) is in
        sym (seen.sites (suc k) x.0 x.1 (omega arith)).sent ∙ (shows.sites (suc k) x.0 x.1 (omega arith)).sent
    sent_agrees k false is =
        ap (λ t. t && (later (of_site (codes "sent$") (suc k)) == 1)) (site_false k is)
        ∙ sym (ap (λ t. cond (clears C P r (C.unit (C.caller (suc k)))) false (t || go C P r i (suc k))) (unsent k is)
        ∙ ap (λ t. cond (clears C P r (C.unit (C.caller (suc k)))) false t) (no_go r i k is)
        ∙ cond_none (clears C P r (C.unit (C.caller (suc k)))))

    got_agrees : (k : ℕ) (t : Bool) → nat_le (suc k) C.sites ≡ t → q.got (suc k) ≡ n.got (suc k)
    unfolding next
    got_agrees k true is =
        let x = site_entry (suc k) is in
        sym (seen.sites (suc k) x.0 x.1 (omega arith)).got ∙ (shows.sites (suc k) x.0 x.1 (omega arith)).got
    got_agrees k false is =
        ap (λ t. t && (later (of_site (codes "got$") (suc k)) == 1)) (site_false k is)
        ∙ sym (ap (λ t. cond (clears C P r (C.unit (C.caller (suc k)))) false ((t && (now (of_site (codes "got$") (suc k)) == 1)) || ret C r (suc k))) (site_false k is)
        ∙ ap (λ t. cond (clears C P r (C.unit (C.caller (suc k)))) false (r.fin (unit_for C (suc k)) && (t && not (r.got (suc k))))) (unsent k is)
        ∙ ap (λ t. cond (clears C P r (C.unit (C.caller (suc k)))) false t) (and_right (r.fin (unit_for C (suc k))) false refl)
        ∙ cond_none (clears C P r (C.unit (C.caller (suc k)))))

    sent_at : (k : ℕ) → 0 < k → q.sent k ≡ n.sent k
    sent_at zero pos = absurd (omega (arith, pos))
    sent_at (suc k) pos = sent_agrees k (nat_le (suc k) C.sites) refl

    got_at : (k : ℕ) → 0 < k → q.got k ≡ n.got k
    got_at zero pos = absurd (omega (arith, pos))
    got_at (suc k) pos = got_agrees k (nat_le (suc k) C.sites) refl

    pub agrees : Agree C P q n
    agrees = record {
      run = λ u. run_agrees u (is_unit C u) refl;
      fin = λ u. fin_agrees u (is_unit C u) refl;
      res = λ u. res_agrees u (is_unit C u) refl;
      at = λ f l is. let m = there b.members.items f C.functions full.members l in sym ((seen.members f m.0 m.1).at is) ∙ (shows.members f m.0 m.1).at is;
      arg = λ f l. let m = there b.members.items f C.functions full.members l in ap numbers (sym (seen.members f m.0 m.1).arg ∙ (shows.members f m.0 m.1).arg);
      sent = sent_at;
      got = got_at;
      keep = λ k pos le is.
          let s = there b.sites.items k (suc C.sites) full.sites (omega (arith, le)) in
          ap (λ (v : Word). v.bits) (sym ((seen.sites k s.0 s.1 pos).keep is) ∙ (shows.sites k s.0 s.1 pos).keep is);
    }
