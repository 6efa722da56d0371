-- The registers hold words of their widths, in every cycle.
use Rattle.safl_circuit.proofs.Common.{Choice, Names, Numbered, Program, Stands, Word, as_word, bytes_eq-Decides, codes, numbered}
use Rattle.safl_circuit.proofs.Common.{same_Some, unit_for, unwrap_or}
use Rattle.std.proofs.Common.{◌≡◌, ℕ, zero, suc, ◌<◌, ◌≤◌, List, [], ◌∷◌, ◌++◌, map, length, Option, Some, None, Bool, true, false, cond, not, ◌&&◌, refl, sym, ap, ◌∙◌, subst, arith, bytes_eq}
use Rattle.std.proofs.lemmas.Bool.{eqb-true, false_from_ne_true}
use Rattle.std.proofs.lemmas.List.{length-map}
use Rattle.safl_word.proofs.Widths.{widths}
use Rattle.safl_word.proofs.Words.{word_eq}
use Rattle.safl_term.specs.Readiness.{Answer, Ready, LoopTo, NotYet, word_of, or_else, answer}
use Rattle.safl_term.specs.WellFormed.{IsWellFormed, HasWidth, AreWordsOf}
use Rattle.safl_term.proofs.Widths.{answer_width, loop_widths, wanted_widths}
use Rattle.safl_calls.proofs.Basics.{first_some, cond_some, some_none}
use Rattle.safl_circuit.specs.Equations.{Registers, Inputs, ret, word_on, on_wires, path, body_says, body_wants, go_words, loop_from}
use Rattle.safl_circuit.specs.Equations.{loop_words, ends, loads, next}
use Rattle.safl_circuit.proofs.Searched.{end_in, load_in}
use Rattle.safl_net.specs.Netlist.{Netlist, Signal, Kind, Input, Reg, Wire}
use Rattle.safl_net.specs.Valuations.{Valuation, Fits, read, read_next}
use Rattle.safl_net.specs.Runs.{is_argument, input_numbers}
use Rattle.safl_circuit.specs.Names.{of_param, as_words, numbers, view, registers_now, registers_next, input_now}
use Rattle.safl_circuit.specs.Layout.{Line, named, input_kind, each_line}
use Rattle.safl_circuit.specs.Scheme.{Scheme, Agree}
use Rattle.safl_circuit.proofs.Same.{Same}
use Rattle.safl_circuit.proofs.Ends.{goes_of}

pub record Typed (C : Program) (r : Registers) : Type 0 where
  pub res : (u : ℕ) → (r.res u).width ≡ C.result u
  pub arg : (f : ℕ) → f < C.functions → widths (r.arg f) ≡ C.params f
  pub keep : (k : ℕ) → k ≤ C.sites → (r.keep k).width ≡ C.result (C.callee k)

pub as_widths : (ws bs : List ℕ) → length bs ≡ length ws → widths (as_words ws bs) ≡ ws
as_widths [] bs len = refl
as_widths (w ∷ ws) [] len = absurd (omega (arith, len))
as_widths (w ∷ ws) (b ∷ bs) len = ap (λ l. w ∷ l) (as_widths ws bs (omega (arith, len)))

-- words are the words of their numbers
pub as_numbers : (vs : List Word) (ws : List ℕ) → AreWordsOf vs ws → as_words ws (numbers vs) ≡ vs
as_numbers [] [] h = refl
as_numbers [] (w ∷ ws) h = absurd h
as_numbers (v ∷ vs) [] h = absurd h
as_numbers (v ∷ vs) (w ∷ ws) h = ap (λ x. as_word x v.bits ∷ as_words ws (numbers vs)) (sym h.1) ∙ ap (λ l. v ∷ l) (as_numbers vs ws h.2)

abbrev head : List ℕ → ℕ
head [] = 0
head (x ∷ xs) = x

abbrev rest : List ℕ → List ℕ
rest [] = []
rest (x ∷ xs) = xs

words_path : (xs ys : List Word) → widths xs ≡ widths ys → numbers xs ≡ numbers ys → xs ≡ ys
words_path [] [] p q = refl
words_path [] (y ∷ ys) p q = absurd (let e = ap length p in omega (arith, e))
words_path (x ∷ xs) [] p q = absurd (let e = ap length p in omega (arith, e))
words_path (x ∷ xs) (y ∷ ys) p q = ap (λ z. z ∷ xs) (word_eq x y (ap head p) (ap head q)) ∙ ap (λ l. y ∷ l) (words_path xs ys (ap rest p) (ap rest q))

pub agree_same : (C : Program) (P : Choice) (r q : Registers) → Typed C r → Typed C q → Agree C P r q → Same C P r q
agree_same C P r q t s a = record {
  run = a.run;
  fin = a.fin;
  res = λ u. word_eq (r.res u) (q.res u) (t.res u ∙ sym (s.res u)) (a.res u);
  at = a.at;
  arg = λ f lt. words_path (r.arg f) (q.arg f) (t.arg f lt ∙ sym (s.arg f lt)) (a.arg f lt);
  sent = a.sent;
  got = a.got;
  keep = λ k pos le is. word_eq (r.keep k) (q.keep k) (t.keep k le ∙ sym (s.keep k le)) (a.keep k pos le is);
}

module _ (C : Program) (P : Choice) (wf : IsWellFormed C) where
  good : Numbered C
  good = numbered C wf

  module _ (r : Registers) (typed : Typed C r) where
    unit_width : (k : ℕ) → k ≤ C.sites → (r.res (unit_for C k)).width ≡ C.result (C.callee k)
    unit_width k le = typed.res (unit_for C k) ∙ (wf.first (C.callee k) (good.callee_in k le)).2

    wire_width : (k : ℕ) (v : Word) → k ≤ C.sites → on_wires C P r k ≡ Some v → v.width ≡ C.result (C.callee k)
    wire_width zero v le e = absurd (some_none v (sym e))
    wire_width (suc k) v le e =
        let a = cond_some _ _ v e in
        sym (ap (λ w. w.width) (same_Some (word_on C P r (suc k)) v a.1)) ∙ by (P.kept (suc k) && not (ret C r (suc k)))
      where
        by : (b : Bool) → (cond b (r.keep (suc k)) (r.res (unit_for C (suc k)))).width ≡ C.result (C.callee (suc k))
        by true = typed.keep (suc k) le
        by false = unit_width (suc k) le

    back_in : (f : ℕ) → f < C.functions → (k : ℕ) (v : Word) → Stands k (C.body f) → on_wires C P r k ≡ Some v → v.width ≡ C.result (C.callee k)
    back_in f lt k v st e = wire_width k v (good.own f k lt st).1 e

    body_width : (f : ℕ) → f < C.functions → HasWidth C (widths (r.arg f)) (C.body f) (C.result f)
    body_width f lt = subst (λ l. HasWidth C l (C.body f) (C.result f)) (sym (typed.arg f lt)) (wf.widths f lt)

    says_width : (f : ℕ) (v : Word) → f < C.functions → body_says C P r f ≡ Ready v → v.width ≡ C.result f
    unfolding body_says
    says_width f v lt e = by (path C r f) e
      where
        by : (b : Bool) → cond b (answer (on_wires C P r) (r.arg f) (C.body f)) NotYet ≡ Ready v → v.width ≡ C.result f
        by true z = let b = wf.numbered.bodies f in answer_width C (on_wires C P r) f true b.0 b.1 (r.arg f) (C.body f) (C.result f) v b.3 (body_width f lt) (back_in f lt) z
        by false z = absurd (not_ready z)
          where
            not_ready : NotYet ≡ Ready v → ⊥
            not_ready z = grind arith

    says_loop : (f h : ℕ) (vs : List Word) → f < C.functions → body_says C P r f ≡ LoopTo h vs → widths vs ≡ C.params h
    unfolding body_says
    says_loop f h vs lt e = by (path C r f) e
      where
        by : (b : Bool) → cond b (answer (on_wires C P r) (r.arg f) (C.body f)) NotYet ≡ LoopTo h vs → widths vs ≡ C.params h
        by true z = let b = wf.numbered.bodies f in loop_widths C (on_wires C P r) f true b.0 b.1 (r.arg f) (C.body f) (C.result f) h vs b.3 (body_width f lt) (back_in f lt) z
        by false z = absurd (not_loop z)
          where
            not_loop : NotYet ≡ LoopTo h vs → ⊥
            not_loop z = grind arith

    wants_width : (k : ℕ) (vs : List Word) → 0 < k → k ≤ C.sites → body_wants C P r k ≡ Some vs → widths vs ≡ C.params (C.callee k)
    unfolding body_wants
    wants_width k vs pos le e =
        let g = C.caller k in
        let lt = good.caller_in k pos le in
        let a = cond_some _ _ vs e in
        let c = cond_some _ _ vs a.1 in
        let b = wf.numbered.bodies g in
        wanted_widths C (on_wires C P r) g true b.0 b.1 (r.arg g) (C.body g) (C.result g) k vs b.3 (body_width g lt) (back_in g lt) c.1

    end_width : (f : ℕ) (a : Answer) (v : Word) → word_of a ≡ Some v → a ≡ Ready v
    end_width f (Ready w) v e = ap Ready (same_Some w v e)
    end_width f (LoopTo h vs) v e = absurd (some_none v (sym e))
    end_width f NotYet v e = absurd (some_none v (sym e))

    ends_width : (u : ℕ) (v : Word) → ends C P r u ≡ Some v → v.width ≡ C.result u
    unfolding ends
    ends_width u v e =
        let f = first_some (end_in C P r u) C.functions v e in
        let a = cond_some _ _ v f.2 in
        says_width f.0 v f.1 (end_width f.0 (body_says C P r f.0) v a.1) ∙ sym (wf.first f.0 f.1).2 ∙ ap C.result (eqb-true (C.unit f.0) u a.0)

    loop_width : (h : ℕ) (vs : List Word) → loop_words C P r h ≡ Some vs → widths vs ≡ C.params h
    loop_width h vs e =
        let g = first_some (loop_from C P r h) C.functions vs e in
        let a = cond_some _ _ vs g.2 in
        says_loop g.0 h vs g.1 (goes_of h (body_says C P r g.0) vs a.1)

    module _ (i : Inputs) (inputs : widths i.words ≡ C.params C.main) where
      go_width : (k : ℕ) (vs : List Word) → k ≤ C.sites → go_words C P r i k ≡ Some vs → widths vs ≡ C.params (C.callee k)
      go_width zero vs le e = let a = cond_some _ _ vs e in sym (ap widths (same_Some i.words vs a.1)) ∙ inputs ∙ ap C.params (sym good.outside)
      go_width (suc k) vs le e = let a = cond_some _ _ vs e in wants_width (suc k) vs (omega arith) le a.1

      load_width : (f : ℕ) (vs : List Word) → loads C P r i f ≡ Some vs → widths vs ≡ C.params f
      unfolding loads
      load_width f vs e =
          let k = first_some (load_in C P r i f) (suc C.sites) vs e in
          let a = cond_some _ _ vs k.2 in
          go_width k.0 vs (omega (arith, k.1)) a.1 ∙ ap C.params (eqb-true (C.callee k.0) f a.0)

      pub typed_next : Typed C (next C P i r)
      unfolding next
      typed_next = record {
        res = λ u. by_end u (ends C P r u) refl;
        arg = λ f lt. by_load f lt (loads C P r i f) (loop_words C P r f) refl refl;
        keep = λ k le. typed_keep k le (ret C r k);
      }
        where
          by_end : (u : ℕ) (o : Option Word) → ends C P r u ≡ o → (unwrap_or o (r.res u)).width ≡ C.result u
          by_end u None e = typed.res u
          by_end u (Some v) e = ends_width u v e

          by_load : (f : ℕ) → f < C.functions → (o p : Option (List Word)) → loads C P r i f ≡ o → loop_words C P r f ≡ p → widths (unwrap_or (or_else o p) (r.arg f)) ≡ C.params f
          by_load f lt (Some vs) p e g = load_width f vs e
          by_load f lt None (Some vs) e g = loop_width f vs g
          by_load f lt None None e g = typed.arg f lt

          typed_keep : (k : ℕ) → k ≤ C.sites → (b : Bool) → (cond b (r.res (unit_for C k)) (r.keep k)).width ≡ C.result (C.callee k)
          typed_keep k le true = unit_width k le
          typed_keep k le false = typed.keep k le

-- how many inputs there are besides `start`
free_lines : List Line → ℕ
free_lines [] = 0
free_lines (l ∷ ls) = cond (bytes_eq l.0 (codes "start")) (free_lines ls) (suc (free_lines ls))

count_inputs : (gs : List Signal) (v : Valuation) → length v ≡ length gs → length (input_numbers gs v) ≡ free_lines (each_line input_kind gs)
unfolding input_numbers each_line free_lines
count_inputs [] v full = refl
count_inputs (g ∷ gs) [] full = absurd (omega (arith, full))
count_inputs (g ∷ gs) (w ∷ ws) full = by g.kind (count_inputs gs ws (omega (arith, full)))
  where
    by_start : (b : Bool) (xs : List ℕ) (m : ℕ) → length xs ≡ m → length (cond (cond b false true) (w ∷ xs) xs) ≡ cond b m (suc m)
    by_start true xs m e = e
    by_start false xs m e = ap suc e

    by : (k : Kind) → length (input_numbers gs ws) ≡ free_lines (each_line input_kind gs) → length
        (cond (is_argument g.name k) (w ∷ input_numbers gs ws) (input_numbers gs ws)) ≡ free_lines (input_kind (g.name, g.width) k ++ each_line input_kind gs)
    by Input e = by_start (bytes_eq g.name (codes "start")) (input_numbers gs ws) (free_lines (each_line input_kind gs)) e
    by (Reg init next) e = e
    by (Wire cell) e = e

free_named : (ps : List (List ℕ)) (ws : List ℕ) → length ps ≡ length ws → free_lines (named (map (λ x. codes "in$" ++ x) ps) ws) ≡ length ws
unfolding free_lines
free_named [] [] len = refl
free_named [] (w ∷ ws) len = absurd (omega (arith, len))
free_named (p ∷ ps) [] len = absurd (omega (arith, len))
free_named (p ∷ ps) (w ∷ ws) len =
    ap (λ b. cond b (free_lines (named (map (λ x. codes "in$" ++ x) ps) ws)) (suc (free_lines (named (map (λ x. codes "in$" ++ x) ps) ws)))) other
    ∙ ap suc (free_named ps ws (omega (arith, len)))
  where
    other : bytes_eq (codes "in$" ++ p) (codes "start") ≡ false
    other = false_from_ne_true _ (λ t. let e = ap head ((bytes_eq-Decides (codes "in$" ++ p) (codes "start")).0 t) in absurd (omega (arith, e)))

module _ (C : Program) (D : Names) (P : Choice) (n : Netlist) (wf : IsWellFormed C) (scheme : Scheme C D P n) where
  typed_view : (get : List ℕ → ℕ) → Typed C (view C D get)
  typed_view get = record {
    res = λ u. refl;
    arg = λ f lt. as_widths (C.params f) (map (λ p. get (of_param D f p)) (D.params f)) (length-map (D.params f) (λ p. get (of_param D f p)) ∙ scheme.params f lt);
    keep = λ k le. refl;
  }

  pub typed_input : (v : Valuation) (state : ℕ → ℕ) → Fits n state v → widths (input_now C n v).words ≡ C.params C.main
  unfolding free_lines
  typed_input v state fits =
      as_widths (C.params C.main) (input_numbers n.signals v)
      (count_inputs n.signals v fits.full ∙ ap free_lines scheme.inputs ∙ free_named (D.params C.main) (C.params C.main) (scheme.params C.main wf.main_in))

  -- the edge of the scheme, in words
  pub edge_same : (v : Valuation) (state : ℕ → ℕ) → Fits n state v → Same C P (registers_next C D n v) (next C P (input_now C n v) (registers_now C D n v))
  edge_same v state fits =
      agree_same C P (registers_next C D n v) (next C P (input_now C n v) (registers_now C D n v)) (typed_view (read_next n v))
      (typed_next C P wf (registers_now C D n v) (typed_view (read n v)) (input_now C n v) (typed_input v state fits)) (scheme.edge v state fits)
