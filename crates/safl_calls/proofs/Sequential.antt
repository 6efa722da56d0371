-- Where no two terms of a body that are parallel have sites in reach, at most one event is enabled.
use Rattle.safl_calls.proofs.Common.{Program, Word, cases_eq, cases_order, false≢true, not_ready, unit_for}
use Rattle.std.proofs.Common.{◌≡◌, ◌≢◌, ℕ, zero, suc, ◌+◌, ◌*◌, ◌<◌, ◌≤◌, List, Some, is_some, refl, sym, ap, ◌∙◌, subst, ⊎_elim, arith}
use Rattle.safl_calls.proofs.Basics.{serves}
use Rattle.safl_calls.proofs.Bodies.{settled}
use Rattle.safl_calls.proofs.Interference.{Live, sent_live, wanted_here, sound_at, caller_lt, climb}
use Rattle.safl_calls.proofs.Invariant.{Inv, inv_after, found}
use Rattle.safl_calls.proofs.Numbered.{Numbered}
use Rattle.safl_calls.specs.Laws.{OneEvent}
use Rattle.safl_sites.specs.Conflicts.{IsSequential}
use Rattle.safl_calls.specs.Machine.{State, Mode, Idle, Runs, Delivers, Event, Accept, Finish, Return, LoopInto, opening, Enabled, after_event, back, says_as, says}
use Rattle.safl_sites.specs.Conflicts.{Here}
use Rattle.safl_term.specs.Readiness.{Answer, Ready, LoopTo, NotYet, answer, Sent, back_word}
use Rattle.safl_term.proofs.Apart.{loop_not_yet, not_loop, ready_not_yet, sent_unsent}
use Rattle.safl_calls.proofs.Apart.{delivers_runs}

yet_or : (a : Answer) → ((a ≡ NotYet → ⊥) → ⊥) → a ≡ NotYet
yet_or (Ready v) h = absurd (h (ready_not_yet v))
yet_or (LoopTo g vs) h = absurd (h (loop_not_yet g vs))
yet_or NotYet h = refl

module _ (C : Program) (good : Numbered C) (s : State) (inv : Inv C s) where
  -- the site that the unit of a sent site's caller serves
  over : (k : ℕ) → s.site (suc k) ≡ Sent → C.unit (C.caller (suc k)) < C.unit C.main → (p : ℕ) × (s.site (suc p) ≡ Sent) × (unit_for C (suc p) ≡ C.unit (C.caller (suc k)))
  over k sent lt =
      let a = inv.asks (suc k) (omega arith) (λ un. sent_unsent (sym sent ∙ un)) in
      by a.serves (ap serves a.runs)
    where
      by : (p : ℕ) → serves (s.unit (C.unit (C.caller (suc k)))) ≡ Some p → (p : ℕ) × (s.site (suc p) ≡ Sent) × (unit_for C (suc p) ≡ C.unit (C.caller (suc k)))
      by zero e =
          let sv = inv.serving (C.unit (C.caller (suc k))) 0 e in
          let main = ap C.unit good.outside in
          absurd (omega (arith, sv.1, main, lt))
      by (suc p) e = let sv = inv.serving (C.unit (C.caller (suc k))) (suc p) e in (p, sv.0, sv.1)

  -- no site of the unit's members is sent
  abbrev pub Rests : ℕ → Type 0
  Rests u = (j : ℕ) → s.site (suc j) ≡ Sent → C.unit (C.caller (suc j)) ≢ u

  -- from a sent site of a lower unit a sent site is reached across a unit that rests
  across : (n u a : ℕ) → u ≤ C.unit C.main → Rests u → s.site (suc a) ≡ Sent → unit_for C (suc a) < u → u ≤ n + unit_for C (suc a) → (p : ℕ) ×
      (s.site (suc p) ≡ Sent) × (unit_for C (suc p) < u) × (u < C.unit (C.caller (suc p)))
  across zero u a top rests sent lt le = absurd (omega (arith, lt, le))
  across (suc n) u a top rests sent lt le = ⊎_elim
      (λ same. absurd (rests a sent same))
      (λ d. ⊎_elim
      (λ below.
      let o = over a sent (omega (arith, below, top)) in
      let l = sent_live C good s inv a sent in
      let e = good.earlier (suc a) l.pos l.within in
      across n u o.0 top rests o.1 (omega (arith, o.2, below)) (omega (arith, o.2, e, le)))
      (λ above. (a, sent, lt, above)) d)
      (cases_order (C.unit (C.caller (suc a))) u)

  serving_top : (u k : ℕ) → serves (s.unit u) ≡ Some k → u ≤ C.unit C.main
  serving_top u k e =
      let sv = inv.serving u k e in
      let last = good.last (C.callee k) (good.callee_in k sv.2) in
      omega (arith, sv.1, last)

  caller_top : (k : ℕ) → s.site (suc k) ≡ Sent → C.unit (C.caller (suc k)) ≤ C.unit C.main
  caller_top k sent = good.last (C.caller (suc k)) (caller_lt C good s inv (suc k) (sent_live C good s inv k sent))

  -- while main's call is not in flight nothing is
  no_service : (s.site 0 ≡ Sent → ⊥) → (u k : ℕ) → serves (s.unit u) ≡ Some k → ⊥
  no_service none u zero e = none (inv.serving u 0 e).0
  no_service none u (suc k) e =
      let sv = inv.serving u (suc k) e in
      let top = serving_top u (suc k) e in
      let apart = good.main_last (suc k) (omega arith) sv.2 in
      let p = across (C.unit C.main) (C.unit C.main) k (omega arith) main_rests sv.0 (omega (arith, sv.1, top, apart)) (omega arith) in
      let t = caller_top p.0 p.1 in
      omega (arith, p.3, t)
    where
      main_rests : Rests (C.unit C.main)
      main_rests j sent is =
          let a = inv.asks (suc j) (omega arith) (λ un. sent_unsent (sym sent ∙ un)) in
          by a.serves (ap serves a.runs)
        where
          by : (p : ℕ) → serves (s.unit (C.unit (C.caller (suc j)))) ≡ Some p → ⊥
          by zero f = none (inv.serving _ 0 f).0
          by (suc p) f = let sw = inv.serving _ (suc p) f in good.main_last (suc p) (omega arith) sw.2 (sw.1 ∙ is)

  module _ (seq : IsSequential C) where
    -- two busy sites whose units and callers cross are one
    crossing : (a c : ℕ) → Live C s a → Live C s c → a ≢ c → unit_for C a < C.unit (C.caller c) → unit_for C c < C.unit (C.caller a) → ⊥
    crossing a c la lc other ac ca =
        let g = climb C good s inv a c (2 * C.functions) a c la lc other ac ca (λ t st. Here st) (λ t st. Here st) (omega arith) in
        seq g.0 a c g.1 g.2

    lower : (u w k m : ℕ) → serves (s.unit u) ≡ Some k → serves (s.unit w) ≡ Some m → Rests w → u < w → ⊥
    lower u w zero m eu ew rests lt =
        let sv = inv.serving u 0 eu in
        let main = ap C.unit good.outside in
        let top = serving_top w m ew in
        omega (arith, sv.1, main, top, lt)
    lower u w (suc a) m eu ew rests lt =
        let sv = inv.serving u (suc a) eu in
        let p = across w w a (serving_top w m ew) rests sv.0 (omega (arith, sv.1, lt)) (omega arith) in
        by p.0 p.1 p.2 p.3 m ew
      where
        by : (p : ℕ) → s.site (suc p) ≡ Sent → unit_for C (suc p) < w → w < C.unit (C.caller (suc p)) → (m : ℕ) → serves (s.unit w) ≡ Some m → ⊥
        by p sent below above zero e =
            let sw = inv.serving w 0 e in
            let main = ap C.unit good.outside in
            let top = caller_top p sent in
            omega (arith, sw.1, main, top, above)
        by p sent below above (suc c) e =
            let sw = inv.serving w (suc c) e in
            let lp = sent_live C good s inv p sent in
            let lc = sent_live C good s inv c sw.0 in
            let early = good.earlier (suc c) lc.pos lc.within in
            crossing (suc p) (suc c) lp lc (λ is. omega (arith, ap (unit_for C) is, sw.1, below)) (omega (arith, sw.1, below, early)) (omega (arith, sw.1, above))

    -- one serving unit has no sent site
    one_leaf : (u w k m : ℕ) → serves (s.unit u) ≡ Some k → serves (s.unit w) ≡ Some m → Rests u → Rests w → u ≡ w
    one_leaf u w k m eu ew ru rw' = ⊎_elim (λ same. same)
        (λ d. ⊎_elim (λ lt. absurd (lower u w k m eu ew rw' lt)) (λ gt. absurd (lower w u m k ew eu ru gt)) d)
        (cases_order u w)

    -- which event a unit has enabled, by what it does
    abbrev Fits : ℕ → Mode → Answer → Event → Type 0
    Fits u Idle a e = ⊥
    Fits u (Delivers k v) a e = e ≡ Return k
    Fits u (Runs f j ws) (Ready v) e = e ≡ Finish f
    Fits u (Runs f j ws) (LoopTo h vs) e = e ≡ LoopInto h
    Fits u (Runs f j ws) NotYet e = (k : ℕ) × (e ≡ Accept (suc k)) × Live C s (suc k) × (C.unit (C.caller (suc k)) ≡ u)

    record Leaf (e : Event) : Type 0 where
      unit : ℕ
      site : ℕ
      serving : serves (s.unit unit) ≡ Some site
      rests : Rests unit
      fits : Fits unit (s.unit unit) (says C s unit) e

    same_fits : (u : ℕ) (m : Mode) (a : Answer) (d e : Event) → Fits u m a d → Fits u m a e → d ≡ e
    same_fits u Idle a d e p q = absurd p
    same_fits u (Delivers k v) a d e p q = p ∙ sym q
    same_fits u (Runs f j ws) (Ready v) d e p q = p ∙ sym q
    same_fits u (Runs f j ws) (LoopTo h vs) d e p q = p ∙ sym q
    same_fits u (Runs f j ws) NotYet d e p q = ⊎_elim
        (λ same. p.1 ∙ ap (λ k. Accept (suc k)) same ∙ sym q.1)
        (λ other.
        let ep = good.earlier (suc p.0) p.2.pos p.2.within in
        let eq = good.earlier (suc q.0) q.2.pos q.2.within in
        absurd (crossing (suc p.0) (suc q.0) p.2 q.2 (λ is. other (omega (arith, is))) (omega (arith, ep, p.3, q.3)) (omega (arith, eq, p.3, q.3))))
        (cases_eq p.0 q.0)

    one : (d e : Event) → Leaf d → Leaf e → d ≡ e
    one d e p q =
        let same = one_leaf p.unit q.unit p.site q.site p.serving q.serving p.rests q.rests in
        same_fits q.unit (s.unit q.unit) (says C s q.unit) d e (subst (λ u. Fits u (s.unit u) (says C s u) d) same p.fits) q.fits

    -- a running body that says something has no sent site
    said_rests : (f j : ℕ) (ws : List Word) → f < C.functions → s.unit (C.unit f) ≡ Runs f j ws → (answer (back s) ws (C.body f) ≡ NotYet → ⊥) → (k : ℕ) → Live C s k → C.unit (C.caller k) ≢ C.unit f
    said_rests f j ws lt runs some k l is =
        let w = wanted_here C good s inv f j ws k runs is l.asks in
        let got = settled (back s) ws (C.body f) (good.once f lt) (sound_at C good s inv f j ws lt runs) (answer (back s) ws (C.body f)) refl some k w.1 in
        false≢true (sym l.out ∙ got)

    leaf : (args : List Word) (e : Event) → (e ≡ Accept 0 → ⊥) → Enabled C args s e → Leaf e
    leaf args (Accept zero) other h = absurd (other refl)
    leaf args (Accept (suc k)) other h =
        let f = found C args s (suc k) h.0 h.1 in
        let a = f.asks (omega arith) in
        let l : Live C s (suc k) = record { pos = omega arith; within = f.within; asks = a; out = ap (λ x. is_some (back_word x)) f.unsent } in
        let g = C.caller (suc k) in
        let u = C.unit g in
        let lt = caller_lt C good s inv (suc k) l in
        let yet : answer (back s) a.args (C.body g) ≡ NotYet = yet_or _ (λ some. said_rests g a.serves a.args lt a.runs some (suc k) l refl) in
        let early = good.earlier (suc k) l.pos l.within in
        record {
          unit = u;
          site = a.serves;
          serving = ap serves a.runs;
          rests = λ j sent is.
              let lj = sent_live C good s inv j sent in
              let ej = good.earlier (suc j) lj.pos lj.within in
              crossing (suc k) (suc j) l lj (λ same. sent_unsent (sym sent ∙ ap s.site (sym same) ∙ f.unsent)) (omega (arith, early, is)) (omega (arith, ej, is));
          fits = subst (λ m. Fits u m (says_as C (back s) m) (Accept (suc k))) (sym a.runs) (subst (λ q. Fits u (Runs g a.serves a.args) q (Accept (suc k))) (sym yet) (k, refl, l, refl));
        }
    leaf args (Finish f) other h =
        let m = inv.member (C.unit f) f h.0 h.1 h.3 in
        let is : answer (back s) h.1 (C.body f) ≡ Ready h.2 = sym (ap (says_as C (back s)) h.3) ∙ h.4 in
        record {
          unit = C.unit f;
          site = h.0;
          serving = ap serves h.3;
          rests = λ j sent. said_rests f h.0 h.1 m.1 h.3 (λ yet. not_ready h.2 (sym yet ∙ is)) (suc j) (sent_live C good s inv j sent);
          fits = subst (λ m. Fits (C.unit f) m (says C s (C.unit f)) (Finish f)) (sym h.3) (subst (λ q. Fits (C.unit f) (Runs f h.0 h.1) q (Finish f)) (sym h.4) refl);
        }
    leaf args (Return k) other h =
        record {
          unit = unit_for C k;
          site = k;
          serving = ap serves h.1;
          rests = λ j sent is.
              let a = inv.asks (suc j) (omega arith) (λ un. sent_unsent (sym sent ∙ un)) in
              delivers_runs (C.caller (suc j)) a.serves k h.0 a.args (sym h.1 ∙ ap s.unit (sym is) ∙ a.runs);
          fits = subst (λ m. Fits (unit_for C k) m (says C s (unit_for C k)) (Return k)) (sym h.1) refl;
        }
    leaf args (LoopInto g) other h = by (s.unit (C.unit g)) refl
      where
        by : (m : Mode) → s.unit (C.unit g) ≡ m → Leaf (LoopInto g)
        by Idle e = absurd (not_loop g h.0 (sym (ap (says_as C (back s)) e) ∙ h.1))
        by (Delivers k v) e = absurd (not_loop g h.0 (sym (ap (says_as C (back s)) e) ∙ h.1))
        by (Runs f k ws) e =
            let m = inv.member (C.unit g) f k ws e in
            let runs : s.unit (C.unit f) ≡ Runs f k ws = ap s.unit m.0 ∙ e in
            let is : answer (back s) ws (C.body f) ≡ LoopTo g h.0 = sym (ap (says_as C (back s)) e) ∙ h.1 in
            record {
              unit = C.unit g;
              site = k;
              serving = ap serves e;
              rests = λ j sent at. said_rests f k ws m.1 runs (λ yet. not_loop g h.0 (sym yet ∙ is)) (suc j) (sent_live C good s inv j sent) (at ∙ sym m.0);
              fits = subst (λ m. Fits (C.unit g) m (says C s (C.unit g)) (LoopInto g)) (sym e) (subst (λ q. Fits (C.unit g) (Runs f k ws) q (LoopInto g)) (sym h.1) refl);
            }

    -- before main's call is accepted no other event is enabled
    main_alone : (args : List Word) (e : Event) → Enabled C args s (Accept 0) → (e ≡ Accept 0 → ⊥) → Enabled C args s e → ⊥
    main_alone args e h other on =
        let un = (found C args s 0 h.0 h.1).unsent in
        let l = leaf args e other on in
        no_service (λ sent. sent_unsent (sym sent ∙ un)) l.unit l.site l.serving

    is_main : (e : Event) → ((e ≡ Accept 0 → ⊥) → ⊥) → e ≡ Accept 0
    is_main (Accept zero) h = refl
    is_main (Accept (suc k)) h = absurd (h (λ e. grind arith))
    is_main (Finish f) h = absurd (h (λ e. grind arith))
    is_main (Return k) h = absurd (h (λ e. grind arith))
    is_main (LoopInto g) h = absurd (h (λ e. grind arith))

    of_both : (args : List Word) (d e : Event) → Enabled C args s d → Enabled C args s e → (d ≡ Accept 0 → ⊥) → d ≡ e
    of_both args d (Accept zero) hd he other = absurd (main_alone args d he other hd)
    of_both args d (Accept (suc k)) hd he other = one d (Accept (suc k)) (leaf args d other hd) (leaf args (Accept (suc k)) (λ i. grind arith) he)
    of_both args d (Finish f) hd he other = one d (Finish f) (leaf args d other hd) (leaf args (Finish f) (λ i. grind arith) he)
    of_both args d (Return k) hd he other = one d (Return k) (leaf args d other hd) (leaf args (Return k) (λ i. grind arith) he)
    of_both args d (LoopInto g) hd he other = one d (LoopInto g) (leaf args d other hd) (leaf args (LoopInto g) (λ i. grind arith) he)

    pub one_enabled : (args : List Word) (d e : Event) → Enabled C args s d → Enabled C args s e → d ≡ e
    one_enabled args (Accept zero) e hd he = sym (is_main e (λ other. main_alone args e hd other he))
    one_enabled args (Accept (suc k)) e hd he = of_both args (Accept (suc k)) e hd he (λ i. grind arith)
    one_enabled args (Finish f) e hd he = of_both args (Finish f) e hd he (λ i. grind arith)
    one_enabled args (Return k) e hd he = of_both args (Return k) e hd he (λ i. grind arith)
    one_enabled args (LoopInto g) e hd he = of_both args (LoopInto g) e hd he (λ i. grind arith)

pub one_event : (C : Program) → Numbered C → IsSequential C → OneEvent C
one_event C good seq args es legal d e hd he = one_enabled C good (after_event C args opening es) (inv_after C args good es legal) seq args d e hd he
