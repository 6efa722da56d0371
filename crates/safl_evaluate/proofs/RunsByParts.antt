-- What may be evaluated, by the parts of a term.
use Rattle.safl_evaluate.proofs.Common.{Primitive, Stage, back_at, some_none}
use Rattle.std.proofs.Common.{◌≡◌, ℕ, suc, ◌<◌, ◌≤◌, List, [], ◌∷◌, ◌++◌, length, Option, Some, None, false, is_some, get_or, inl, inr, refl, sym, ap, ◌∙◌, subst, arith}
use Rattle.std.specs.Prelude.{IsSome}
use Rattle.std.proofs.lemmas.Option.{slice_get_within}
use Rattle.safl_word.specs.Words.{Word, widths}
use Rattle.safl_word.specs.declared.primitive.Primitive.TheVariants.{Add, Sub, Mul, And, Or, Xor, Not, Eq, Ne, Lt, Le, Gt, Ge, Shl, Shr, Cat, Bits, Ext}
use Rattle.safl_word.specs.Primitives.{result_width, one_width, two_widths}
use Rattle.safl_term.specs.Program.{Program}
use Rattle.safl_term.specs.Readiness.{answers, wanted, wanted_in}
use Rattle.safl_term.specs.Standing.{Stands, StandsIn}
use Rattle.safl_term.specs.Terms.{Term, Var, If, Let, Op, Call, Loop, Terms, Cons}
use Rattle.safl_term.specs.WellFormed.{HasWidth, HaveWidths}
use Rattle.safl_term.proofs.Order.{once_of, once_all, counts_as}
use Rattle.safl_term.proofs.Once.{Once, OnceIn, count}
use Rattle.safl_term.proofs.Places.{fits_le, fits_all_le}
use Rattle.safl_term.proofs.Widths.{answers_widths, widths_append}
use Rattle.safl_term.proofs.OrElse.{neither}
use Rattle.safl_calls.proofs.Bodies.{wanted_stands, wanted_stands_in}
use Rattle.safl_evaluate.specs.Evaluating.{CanRun, CanRunAll, Unasked, UnaskedIn, Notes}

pub can_is : {S : List Stage} {n m : ℕ} {E F : List Word} {t u : Term} → n ≡ m → E ≡ F → t ≡ u → CanRun S n E t → CanRun S m F u
can_is {S} {n} {m} {E} {F} {t} {u} e f g h =
    subst (λ k. CanRun S k F u) e (subst (λ l. CanRun S n l u) f (subst (λ x. CanRun S n E x) g h))

pub can_all_is : {S : List Stage} {n m : ℕ} {E F : List Word} {t u : Terms} → n ≡ m → E ≡ F → t ≡ u → CanRunAll S n E t → CanRunAll S m F u
can_all_is {S} {n} {m} {E} {F} {t} {u} e f g h =
    subst (λ k. CanRunAll S k F u) e (subst (λ l. CanRunAll S n l u) f (subst (λ x. CanRunAll S n E x) g h))

cons_widths : (C : Program) (slots : List ℕ) (t : Term) (ts : Terms) (ws : List ℕ) → HaveWidths C slots (Cons t ts) ws → (w : ℕ) × (vs : List ℕ) × HasWidth C slots t w × HaveWidths C slots ts vs
cons_widths C slots t ts [] h = absurd h
cons_widths C slots t ts (w ∷ ws) h = (w, ws, h.0, h.1)

pub widths_len : (vs : List Word) → length (widths vs) ≡ length vs
widths_len [] = refl
widths_len (v ∷ vs) = ap suc (widths_len vs)

one_few : (f : ℕ → Option ℕ) (ws : List ℕ) (w : ℕ) → one_width f ws ≡ Some w → (1 ≤ length ws) × (length ws ≤ 2)
one_few f [] w e = absurd (some_none w (sym e))
one_few f (u ∷ []) w e = (omega arith, omega arith)
one_few f (u ∷ (v ∷ ws)) w e = absurd (some_none w (sym e))

two_few : (f : ℕ → ℕ → Option ℕ) (ws : List ℕ) (w : ℕ) → two_widths f ws ≡ Some w → (1 ≤ length ws) × (length ws ≤ 2)
two_few f [] w e = absurd (some_none w (sym e))
two_few f (u ∷ []) w e = absurd (some_none w (sym e))
two_few f (u ∷ (v ∷ [])) w e = (omega arith, omega arith)
two_few f (u ∷ (v ∷ (x ∷ ws))) w e = absurd (some_none w (sym e))

-- a primitive has one operand or two
few_operands : (o : Primitive) (ws : List ℕ) (w : ℕ) → result_width o ws ≡ Some w → (1 ≤ length ws) × (length ws ≤ 2)
few_operands Add ws w e = two_few _ ws w e
few_operands Sub ws w e = two_few _ ws w e
few_operands Mul ws w e = two_few _ ws w e
few_operands And ws w e = two_few _ ws w e
few_operands Or ws w e = two_few _ ws w e
few_operands Xor ws w e = two_few _ ws w e
few_operands Not ws w e = one_few _ ws w e
few_operands Eq ws w e = two_few _ ws w e
few_operands Ne ws w e = two_few _ ws w e
few_operands Lt ws w e = two_few _ ws w e
few_operands Le ws w e = two_few _ ws w e
few_operands Gt ws w e = two_few _ ws w e
few_operands Ge ws w e = two_few _ ws w e
few_operands Shl ws w e = two_few _ ws w e
few_operands Shr ws w e = two_few _ ws w e
few_operands Cat ws w e = two_few _ ws w e
few_operands (Bits high low) ws w e = one_few _ ws w e
few_operands (Ext n) ws w e = one_few _ ws w e

module _ {S : List Stage} {n : ℕ} {E : List Word} where
  pub can_condition : (c a b : Term) → CanRun S n E (If c a b) → CanRun S n E c
  can_condition c a b h =
      let s = h.spans in
      record {
        program = h.program;
        caller = h.caller;
        tail = false;
        low = h.low;
        high = s.0;
        width = 1;
        spans = s.2;
        fits = h.fits.0;
        first = h.first;
        within = omega (arith, h.within, fits_le h.program h.caller h.tail s.0 s.1 a s.3, fits_le h.program h.caller h.tail s.1 h.high b s.4);
        all_sites = h.all_sites;
        few = h.few;
        back = h.back;
      }

  pub can_then : (c a b : Term) → CanRun S n E (If c a b) → CanRun S n E a
  can_then c a b h =
      let s = h.spans in
      record {
        program = h.program;
        caller = h.caller;
        tail = h.tail;
        low = s.0;
        high = s.1;
        width = h.width;
        spans = s.3;
        fits = h.fits.1;
        first = omega (arith, h.first, fits_le h.program h.caller false h.low s.0 c s.2);
        within = omega (arith, h.within, fits_le h.program h.caller h.tail s.1 h.high b s.4);
        all_sites = h.all_sites;
        few = h.few;
        back = h.back;
      }

  pub can_else : (c a b : Term) → CanRun S n E (If c a b) → CanRun S n E b
  can_else c a b h =
      let s = h.spans in
      record {
        program = h.program;
        caller = h.caller;
        tail = h.tail;
        low = s.1;
        high = h.high;
        width = h.width;
        spans = s.4;
        fits = h.fits.2;
        first = omega (arith, h.first, fits_le h.program h.caller false h.low s.0 c s.2, fits_le h.program h.caller h.tail s.0 s.1 a s.3);
        within = h.within;
        all_sites = h.all_sites;
        few = h.few;
        back = h.back;
      }

  pub can_bound : (ts : Terms) (b : Term) → CanRun S n E (Let ts b) → CanRunAll S n E ts
  can_bound ts b h =
      let s = h.spans in
      record {
        program = h.program;
        caller = h.caller;
        low = h.low;
        high = s.0;
        ws = h.fits.0;
        spans = s.1;
        fits = h.fits.1;
        first = h.first;
        within = omega (arith, h.within, fits_le h.program h.caller h.tail s.0 h.high b s.2);
        all_sites = h.all_sites;
        few = h.few;
        back = h.back;
      }

  pub can_op : (o : Primitive) (ts : Terms) → CanRun S n E (Op o ts) → CanRunAll S n E ts
  can_op o ts h =
      record {
        program = h.program;
        caller = h.caller;
        low = h.low;
        high = h.high;
        ws = h.fits.0;
        spans = h.spans;
        fits = h.fits.1;
        first = h.first;
        within = h.within;
        all_sites = h.all_sites;
        few = h.few;
        back = h.back;
      }

  pub can_call : (f k : ℕ) (ts : Terms) → CanRun S n E (Call f k ts) → CanRunAll S n E ts
  can_call f k ts h =
      record {
        program = h.program;
        caller = h.caller;
        low = suc h.low;
        high = h.high;
        ws = h.program.params f;
        spans = h.spans.4;
        fits = h.fits.0;
        first = omega (arith, h.first);
        within = h.within;
        all_sites = h.all_sites;
        few = h.few;
        back = h.back;
      }

  pub can_loop : (m : ℕ) (ts : Terms) → CanRun S n E (Loop m ts) → CanRunAll S n E ts
  can_loop m ts h =
      record {
        program = h.program;
        caller = h.caller;
        low = h.low;
        high = h.high;
        ws = h.program.params m;
        spans = h.spans.2;
        fits = h.fits.0;
        first = h.first;
        within = h.within;
        all_sites = h.all_sites;
        few = h.few;
        back = h.back;
      }

  pub can_first : (t : Term) (ts : Terms) → CanRunAll S n E (Cons t ts) → CanRun S n E t
  can_first t ts h =
      let s = h.spans in
      let w = cons_widths h.program (widths E) t ts h.ws h.fits in
      record {
        program = h.program;
        caller = h.caller;
        tail = false;
        low = h.low;
        high = s.0;
        width = w.0;
        spans = s.1;
        fits = w.2;
        first = h.first;
        within = omega (arith, h.within, fits_all_le h.program h.caller s.0 h.high ts s.2);
        all_sites = h.all_sites;
        few = h.few;
        back = h.back;
      }

  pub can_rest : (t : Term) (ts : Terms) → CanRunAll S n E (Cons t ts) → CanRunAll S n E ts
  can_rest t ts h =
      let s = h.spans in
      let w = cons_widths h.program (widths E) t ts h.ws h.fits in
      record {
        program = h.program;
        caller = h.caller;
        low = s.0;
        high = h.high;
        ws = w.1;
        spans = s.2;
        fits = w.3;
        first = omega (arith, h.first, fits_le h.program h.caller false h.low s.0 t s.1);
        within = h.within;
        all_sites = h.all_sites;
        few = h.few;
        back = h.back;
      }

  pub can_body : (ts : Terms) (b : Term) (vs : List Word) → CanRun S n E (Let ts b) → answers (back_at S) E ts ≡ Some vs → CanRun S n (E ++ vs) b
  can_body ts b vs h e =
      let s = h.spans in
      let all = answers_widths h.program (back_at S) h.caller h.low s.0 E ts h.fits.0 vs s.1 h.fits.1 (λ k v st q. h.back k v q) e in
      record {
        program = h.program;
        caller = h.caller;
        tail = h.tail;
        low = s.0;
        high = h.high;
        width = h.width;
        spans = s.2;
        fits = subst (λ l. HasWidth h.program l b h.width) (sym (widths_append E vs ∙ ap (λ l. widths E ++ l) all)) h.fits.2;
        first = omega (arith, h.first, fits_all_le h.program h.caller h.low s.0 ts s.1);
        within = h.within;
        all_sites = h.all_sites;
        few = h.few;
        back = h.back;
      }

  -- the operands of an operator have widths for which it has one
  pub op_fits : (o : Primitive) (ts : Terms) (vs : List Word) → CanRun S n E (Op o ts) → answers (back_at S) E ts ≡ Some vs → IsSome (result_width o (widths vs))
  op_fits o ts vs h e =
      let all = answers_widths h.program (back_at S) h.caller h.low h.high E ts h.fits.0 vs h.spans h.fits.1 (λ k v st q. h.back k v q) e in
      let is : result_width o (widths vs) ≡ Some h.width = ap (result_width o) all ∙ h.fits.2 in
      subst (λ (x : Option ℕ). IsSome x) (sym is) (search arith)

  pub op_few : (o : Primitive) (ts : Terms) → CanRun S n E (Op o ts) → (1 ≤ count ts) × (count ts ≤ 2)
  op_few o ts h =
      let few = few_operands o h.fits.0 h.width h.fits.2 in
      let long = counts_as h.program (widths E) ts h.fits.0 h.fits.1 in
      (omega (arith, few.0, long), omega (arith, few.1, long))

  pub call_few : (f k : ℕ) (ts : Terms) → CanRun S n E (Call f k ts) → count ts ≤ 16
  call_few f k ts h = omega (arith, counts_as h.program (widths E) ts (h.program.params f) h.fits.0, h.few f)

  pub loop_few : (m : ℕ) (ts : Terms) → CanRun S n E (Loop m ts) → count ts ≤ 16
  loop_few m ts h = omega (arith, counts_as h.program (widths E) ts (h.program.params m) h.fits.0, h.few m)

  pub call_place : (f k : ℕ) (ts : Terms) → CanRun S n E (Call f k ts) → k < n
  call_place f k ts h = omega (arith, h.spans.0, h.within, fits_all_le h.program h.caller (suc h.low) h.high ts h.spans.4)

  pub var_place : (i : ℕ) → CanRun S n E (Var i) → i < length E
  var_place i h = omega (arith, slice_get_within (widths E) i h.width h.fits, widths_len E)

  pub once : (t : Term) → CanRun S n E t → Once t
  once t h = once_of h.program h.caller h.tail h.low h.high t h.spans

  pub once_in : (ts : Terms) → CanRunAll S n E ts → OnceIn ts
  once_in ts h = once_all h.program h.caller h.low h.high ts h.spans

-- ---- what is not asked for

-- a site is not wanted where it does not stand
pub not_wanted : (B : ℕ → Option Word) (E : List Word) (t : Term) (k : ℕ) → (Stands k t → ⊥) → wanted B E t k ≡ None
not_wanted B E t k apart = by (wanted B E t k) refl
  where
    by : (o : Option (List Word)) → wanted B E t k ≡ o → o ≡ None
    by None e = refl
    by (Some ws) e = absurd (apart (wanted_stands B E t k (ap is_some e)))

pub not_wanted_in : (B : ℕ → Option Word) (E : List Word) (ts : Terms) (k : ℕ) → (StandsIn k ts → ⊥) → wanted_in B E ts k ≡ None
not_wanted_in B E ts k apart = by (wanted_in B E ts k) refl
  where
    by : (o : Option (List Word)) → wanted_in B E ts k ≡ o → o ≡ None
    by None e = refl
    by (Some ws) e = absurd (apart (wanted_stands_in B E ts k (ap is_some e)))

-- after one part was looked at, another one is still not asked for
still : {A A' : List (Option (List Word))} {w : ℕ → Option (List Word)} (k : ℕ) → get_or A k None ≡ None → Notes A A' w → w k ≡ None → get_or A' k None ≡ None
still k none notes off = notes.each k ∙ neither _ _ none off

module _ {A : List (Option (List Word))} where
  pub unasked_condition : (c a b : Term) → Unasked A (If c a b) → Unasked A c
  unfolding Stands
  unasked_condition c a b h = record { none = λ k st. h.none k (inl st) }

  pub unasked_bound : (ts : Terms) (b : Term) → Unasked A (Let ts b) → UnaskedIn A ts
  unfolding Stands
  unasked_bound ts b h = record { none = λ k st. h.none k (inl st) }

  pub unasked_op : (o : Primitive) (ts : Terms) → Unasked A (Op o ts) → UnaskedIn A ts
  unfolding Stands
  unasked_op o ts h = record { none = h.none }

  pub unasked_call : (f j : ℕ) (ts : Terms) → Unasked A (Call f j ts) → UnaskedIn A ts
  unfolding Stands
  unasked_call f j ts h = record { none = λ k st. h.none k (inr st) }

  pub unasked_loop : (m : ℕ) (ts : Terms) → Unasked A (Loop m ts) → UnaskedIn A ts
  unfolding Stands
  unasked_loop m ts h = record { none = h.none }

  pub unasked_first : (t : Term) (ts : Terms) → UnaskedIn A (Cons t ts) → Unasked A t
  unfolding Stands
  unasked_first t ts h = record { none = λ k st. h.none k (inl st) }
