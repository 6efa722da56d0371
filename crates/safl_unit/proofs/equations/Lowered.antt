-- The circuit of a body shows what the equations say.
use Rattle.safl_unit.proofs.Common.{AreSources, Body, Builds, CheckedProgram, Choice, HasRoom, InEachCycle, IsChecked, IsSource, MemberPins}
use Rattle.safl_unit.proofs.Common.{Netlist, Pins, PinsFit, Ports, Program, Returns, Val, Wired, Word, builds_on, builds_within, cases_lt}
use Rattle.safl_unit.proofs.Common.{eq-eqb, gate, le-leb, on, one_word, slice_get_within, sources_kept, words}
use Rattle.std.proofs.Common.{◌≡◌, ℕ, zero, suc, ◌+◌, ◌-◌, ◌*◌, ◌<◌, ◌≤◌, List, Option, Some, None, Result, Ok, Err, IfOk, OnOk, Bool, true, false}
use Rattle.std.proofs.Common.{not, cond, ◌&&◌, nat_le, ⊎_elim, slice_get, refl, sym, ap, subst, ◌∙◌, arith}
use Rattle.safl_term.specs.Terms.{Term, Const, Var, Op, If, Let, Call, Loop, Terms, Nil, Cons}
use Rattle.safl_term.specs.WellFormed.{Spans, SpansAll}
use Rattle.safl_term.specs.Standing.{Stands}
use Rattle.safl_term.specs.Readiness.{Answer, Ready, LoopTo, NotYet, word_of, answer, wanted}
use Rattle.safl_term.proofs.HeldByChecked.{first_site_rises, first_site_past}
use Rattle.safl_term.proofs.Order.{stands_within}
use Rattle.safl_calls.proofs.Locality.{answer_local, wanted_local}
use Rattle.safl_lower.specs.Loads.{to_member}
use Rattle.safl_term.specs.Sizes.{nodes}
use Rattle.safl_lower.specs.Lowering.{returned_word, was_sent, goes_of}
use Rattle.safl_lower.specs.Bodies.{CanLower, IsLowered, back_at, sent_at, answer_at, wanted_at}
use Rattle.safl_circuit.specs.Equations.{Registers, on_wires, path, body_says, body_wants, end_word, goes_to}
use Rattle.safl_unit.specs.Stages.{ReturnsFit, ReturnsShow, HasReturns}
use Rattle.safl_unit.specs.Outcomes.{AreOwnPorts, BodyShows, HasBody}
use Rattle.safl_unit.proofs.equations.Keeping.{returns_kept, cycle_before}

-- ---- the sites of a body

mutual
  -- each site of a body's interval stands in it
  spans_caller : (C : Program) (g : ℕ) (tail : Bool) (lo hi : ℕ) (t : Term) (k : ℕ) → Spans C g tail lo hi t → lo ≤ k → k < hi → C.caller k ≡ g
  spans_caller C g tail lo hi (Const w) k h a b = absurd (omega (arith, h, a, b))
  spans_caller C g tail lo hi (Var i) k h a b = absurd (omega (arith, h, a, b))
  spans_caller C g tail lo hi (Op o ts) k h a b = all_caller C g lo hi ts k h a b
  spans_caller C g tail lo hi (If c x y) k (m, n, p, q, r) a b =
      ⊎_elim (λ l. spans_caller C g false lo m c k p a l)
      (λ l. ⊎_elim (λ o. spans_caller C g tail m n x k q l o) (λ o. spans_caller C g tail n hi y k r o b) (cases_lt k n)) (cases_lt k m)
  spans_caller C g tail lo hi (Let ts x) k (m, p, q) a b = ⊎_elim (λ l. all_caller C g lo m ts k p a l) (λ l. spans_caller C g tail m hi x k q l b) (cases_lt k m)
  spans_caller C g tail lo hi (Call f j ts) k (e, e1, e2, lt, h) a b =
      ⊎_elim (λ l. let s : j ≡ k = omega (arith, e, a, l) in subst (λ i. C.caller i ≡ g) s e2) (λ l. all_caller C g (suc lo) hi ts k h l b) (cases_lt k (suc lo))
  spans_caller C g tail lo hi (Loop m ts) k (e, e1, h) a b = all_caller C g lo hi ts k h a b

  all_caller : (C : Program) (g lo hi : ℕ) (ts : Terms) (k : ℕ) → SpansAll C g lo hi ts → lo ≤ k → k < hi → C.caller k ≡ g
  all_caller C g lo hi Nil k h a b = absurd (omega (arith, h, a, b))
  all_caller C g lo hi (Cons t ts) k (m, p, q) a b = ⊎_elim (λ l. spans_caller C g false lo m t k p a l) (λ l. all_caller C g m hi ts k q l b) (cases_lt k m)

-- sites are numbered from 1 up to the number of sites
pub first_site_least : (c : CheckedProgram) → IsChecked c → (f : ℕ) → f ≤ c.program.functions → 1 ≤ c.first_site f
first_site_least c h zero l = let e = h.first_site in omega (arith, e)
first_site_least c h (suc f) l =
    let a = first_site_least c h f (omega (arith, l)) in
    let b = first_site_rises c f h (omega (arith, l)) in
    omega (arith, a, b)

pub first_site_most : (c : CheckedProgram) → IsChecked c → (f : ℕ) → f ≤ c.program.functions → c.first_site f ≤ suc c.program.sites
first_site_most c h f l = by (c.program.functions - f) f (omega (arith, l))
  where
    by : (d f : ℕ) → f + d ≡ c.program.functions → c.first_site f ≤ suc c.program.sites
    by zero f e =
        let q : c.first_site f ≡ c.first_site c.program.functions = ap c.first_site (omega (arith, e)) in
        let p = first_site_past c in
        omega (arith, q, p)
    by (suc d) f e =
        let a = by d (suc f) (omega (arith, e)) in
        let b = first_site_rises c f h (omega (arith, e)) in
        omega (arith, a, b)

-- ---- the equations

gate_says : (b : Bool) (a : Answer) → gate b (word_of a) ≡ word_of (cond b a NotYet)
gate_says true a = refl
gate_says false a = refl

gate_goes : (b : Bool) (h : ℕ) (a : Answer) → gate b (to_member h (goes_of a)) ≡ goes_to h (cond b a NotYet)
gate_goes true h (Ready w) = refl
gate_goes true h (LoopTo g vs) = refl
gate_goes true h NotYet = refl
gate_goes false h a = refl

gate_wants : {A : Type 0} (p s t : Bool) (o : Option A) → t ≡ true → gate (p && not s) o ≡ cond (not s && t) (cond p o None) None
gate_wants true true t o e = refl
gate_wants true false t o e = ap (λ b. cond b o None) (sym e)
gate_wants false true t o e = refl
gate_wants false false t o e = ap (λ (b : Bool). cond b None None) (sym e)

module _ (c : CheckedProgram) (h : IsChecked c) (f : ℕ) (l : f < c.program.functions) where
  -- the numbers of its sites
  own_least : (k : ℕ) → c.first_site f ≤ k → 0 < k
  own_least k a = let b = first_site_least c h f (omega (arith, l)) in omega (arith, a, b)

  own_most : (k : ℕ) → k < c.first_site (suc f) → k ≤ c.program.sites
  own_most k a = let b = first_site_most c h (suc f) (omega (arith, l)) in omega (arith, a, b)

  module _ (s : Returns) (q : Ports) (ports : AreOwnPorts c s.ports.items f q.sites.items) where
    pub can_lower : (n : Netlist) → ReturnsFit c.program n s → IsSource n q.run 1 → AreSources n q.args.items (c.program.params f) → HasRoom
        n (32 * nodes (c.program.body f) + 32) → CanLower c f n q
    can_lower n fits bit sources room = record {
      run = bit;
      args = sources;
      count = ports.count;
      sites = λ i x e.
          let m = slice_get_within q.sites.items i x e in
          let a = ports.count in
          let k = fits.port (c.first_site f + i) x (own_least (c.first_site f + i) (omega arith)) (own_most (c.first_site f + i) (omega (arith, a, m))) (sym (ports.same i m) ∙ e) in
          record { sent = k.sent; returned = k.returned; value = k.value };
      room = room;
    }

    -- what the ports show
    module _ (P : Choice) (v : Val) (r : Registers) (shows : ReturnsShow c.program P s v r) where
      port_is : (k : ℕ) → c.first_site f ≤ k → k < c.first_site (suc f) → slice_get q.sites.items (k - c.first_site f) ≡ slice_get s.ports.items k
      port_is k a b =
          let n = ports.count in
          ports.same (k - c.first_site f) (omega (arith, a, b, n)) ∙ ap (λ j. slice_get s.ports.items j) (omega (arith, a))

      back_is : (k : ℕ) → c.first_site f ≤ k → k < c.first_site (suc f) → back_at v (c.first_site f) q.sites.items k ≡ on_wires c.program P r k
      back_is k a b = ap (returned_word v) (port_is k a b) ∙ shows.back k (own_least k a) (own_most k b)

      sent_is : (k : ℕ) → c.first_site f ≤ k → k < c.first_site (suc f) → sent_at v (c.first_site f) q.sites.items k ≡ r.sent k
      sent_is k a b = ap (was_sent v) (port_is k a b) ∙ shows.sent k (own_least k a) (own_most k b)

      stands_is : (k : ℕ) → Stands k (c.program.body f) → back_at v (c.first_site f) q.sites.items k ≡ on_wires c.program P r k
      stands_is k st = let w = stands_within c.program f true (c.first_site f) (c.first_site (suc f)) (c.program.body f) k (h.own_sites f l) st in back_is k w.above w.below

      module _ (own : words v q.args.items ≡ r.arg f) where
        answer_is : answer_at c f v q ≡ answer (on_wires c.program P r) (r.arg f) (c.program.body f)
        answer_is = ap (λ (e : List Word). answer (back_at v (c.first_site f) q.sites.items) e (c.program.body f)) own ∙ answer_local
            (back_at v (c.first_site f) q.sites.items) (on_wires c.program P r) (r.arg f) (c.program.body f) stands_is

        wanted_is : (k : ℕ) → wanted_at c f v q k ≡ wanted (on_wires c.program P r) (r.arg f) (c.program.body f) k
        wanted_is k = ap (λ (e : List Word). wanted (back_at v (c.first_site f) q.sites.items) e (c.program.body f) k) own ∙ wanted_local
            (back_at v (c.first_site f) q.sites.items) (on_wires c.program P r) (r.arg f) (c.program.body f) k stands_is

        module _ (runs : on v q.run ≡ path c.program r f) where
          says_is : (g : Bool → Answer → Option (List Word)) → g (on v q.run) (answer_at c f v q) ≡ g (path c.program r f) (answer (on_wires c.program P r) (r.arg f) (c.program.body f))
          says_is g = ap (λ b. g b (answer_at c f v q)) runs ∙ ap (g (path c.program r f)) answer_is

          ends_are : gate (on v q.run) (word_of (answer_at c f v q)) ≡ end_word c.program P r f
          unfolding body_says
          ends_are =
              ap (λ b. gate b (word_of (answer_at c f v q))) runs
              ∙ ap (λ a. gate (path c.program r f) (word_of a)) answer_is
              ∙ gate_says (path c.program r f) (answer (on_wires c.program P r) (r.arg f) (c.program.body f))

          goes_are : (g : ℕ) → gate (on v q.run) (to_member g (goes_of (answer_at c f v q))) ≡ goes_to g (body_says c.program P r f)
          unfolding body_says
          goes_are g =
              says_is (λ b a. gate b (to_member g (goes_of a)))
              ∙ gate_goes (path c.program r f) g (answer (on_wires c.program P r) (r.arg f) (c.program.body f))

          wants_are : (k : ℕ) → c.first_site f ≤ k → k < c.first_site (suc f)
              → gate (on v q.run && not (sent_at v (c.first_site f) q.sites.items k)) (wanted_at c f v q k) ≡ body_wants c.program P r k
          unfolding body_wants
          wants_are k a b =
              let own = spans_caller c.program f true (c.first_site f) (c.first_site (suc f)) (c.program.body f) k (h.own_sites f l) a b in
              let m = own_most k b in
              ap (λ x. gate (x && not (sent_at v (c.first_site f) q.sites.items k)) (wanted_at c f v q k)) runs
              ∙ ap (λ x. gate (path c.program r f && not x) (wanted_at c f v q k)) (sent_is k a b)
              ∙ ap (λ x. gate (path c.program r f && not (r.sent k)) x) (wanted_is k)
              ∙ gate_wants (path c.program r f) (r.sent k) (nat_le k c.program.sites)
              (wanted (on_wires c.program P r) (r.arg f) (c.program.body f) k) (le-leb k c.program.sites m)
              ∙ ap (λ j. cond (not (r.sent k) && nat_le k c.program.sites)
              (cond (path c.program r j) (wanted (on_wires c.program P r) (r.arg j) (c.program.body j) k) None) None) (sym own)

          -- the body shows what the equations say
          pub body_shows : (n m : Netlist) (b : Body) → Wired m v → IsLowered c f q n m b → BodyShows c P f b v r
          body_shows n m b w done = record {
            end = done.end v w ∙ ap one_word ends_are;
            wants = λ i below. let z = done.count in done.wants v w i ∙ wants_are (c.first_site f + i) (omega arith) (omega (arith, z, below));
            loops = λ i below.
                let same = done.group.inside (c.program.unit f + i) (omega arith) (omega (arith, below)) in
                done.loops v w i
                ∙ goes_are (c.program.unit f + i)
                ∙ ap (λ t. cond t (goes_to (c.program.unit f + i) (body_says c.program P r f)) None)
                (sym (eq-eqb (c.program.unit f) (c.program.unit (c.program.unit f + i)) (sym same)));
          }

-- ---- all that a body is

module _ (c : CheckedProgram) (h : IsChecked c) (P : Choice) (f : ℕ) (l : f < c.program.functions) (n0 n1 : Netlist) (p : Pins) (s : Returns) (q : Ports) (m : MemberPins)
    (built : Builds n0 n1 1) (fits : PinsFit c.program n0 p) (returns : HasReturns c.program P n0 p s) (bit : IsSource n1 q.run 1)
    (runs : InEachCycle c.program P n1 p (λ v r i. on v q.run ≡ path c.program r f))
    (ports : AreOwnPorts c s.ports.items f q.sites.items) (member : slice_get p.bank.members.items f ≡ Some m) (own : q.args.items ≡ m.args.items) where
  returns_fit : ReturnsFit c.program n1 s
  returns_fit = (returns_kept built returns).fits

  args_fit : AreSources n1 q.args.items (c.program.params f)
  args_fit = subst (λ xs. AreSources n1 xs (c.program.params f)) (sym own) (sources_kept built (fits.bank.members f m member).args)

  pub body_able : HasRoom n0 (32 * nodes (c.program.body f) + 33) → CanLower c f n1 q
  body_able room = can_lower c h f l s q ports n1 returns_fit bit args_fit (let a = built.count in omega (arith, a, room))

  module _ (n2 : Netlist) where
    body_built : (b : Body) → IsLowered c f q n1 n2 b → Builds n0 n2 (32 * nodes (c.program.body f) + 33)
    body_built b done =
        builds_within (32 * nodes (c.program.body f) + 33) (builds_on built done.built) (omega arith)

    has_body : (b : Body) → IsLowered c f q n1 n2 b → HasBody c P n2 p f b
    has_body b done = record {
      count = done.count;
      group = done.group;
      tails = done.tails;
      fits = done.fits;
      shows = λ v r i y.
          let y1 = cycle_before done.built y in
          let y0 = cycle_before built y1 in
          body_shows c h f l s q ports P v r (returns.shows v r i y0) (ap (words v) own ∙ (y0.bank.members f m member).arg) (runs v r i y1) n1 n2 b y.wired done;
    }

    -- the same of a result
    pub all_built : {E : Type 0} (r : Result Body E) → IfOk r (λ b. IsLowered c f q n1 n2 b) → OnOk r (Builds n0 n2 (32 * nodes (c.program.body f) + 33))
    all_built (Ok b) done = body_built b done
    all_built (Err e) done = tt

    pub all_has : {E : Type 0} (r : Result Body E) → IfOk r (λ b. IsLowered c f q n1 n2 b) → IfOk r (λ b. HasBody c P n2 p f b)
    all_has (Ok b) done = has_body b done
    all_has (Err e) done = tt
