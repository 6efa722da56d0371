-- Terms are looked at part by part.
use Rattle.safl_evaluate.proofs.Common.{Kept, Place, Primitive, Stage, Word, back_at, false≢true, nodes, nodes_in, same_Some, some_none}
use Rattle.std.proofs.Common.{◌≡◌, ℕ, ◌+◌, ◌<◌, ◌≤◌, ◌⊎◌, List, ◌++◌, length, take, Option, Some, None, Bool, true, false, cond, eqb, is_some, get_or}
use Rattle.std.proofs.Common.{slice_set, inl, inr, refl, sym, ap, ◌∙◌, subst, arith}
use Rattle.std.proofs.lemmas.List.{get_or-set_other}
use Rattle.safl_term.specs.Readiness.{Answer, Ready, LoopTo, NotYet, answer, answers, word_of}
use Rattle.safl_term.specs.Standing.{Stands, StandsIn}
use Rattle.safl_term.specs.Terms.{Term, Op, If, Let, Call, Loop, Terms, Cons}
use Rattle.safl_term.proofs.Once.{Once, OnceIn}
use Rattle.safl_term.proofs.PlainTerms.{ready_word, some_nodes}
use Rattle.safl_term.proofs.Apart.{ready_not_yet}
use Rattle.safl_term.proofs.Widths.{ready_is}
use Rattle.safl_calls.proofs.Bodies.{answer_grows, all_grows}
use Rattle.safl_evaluate.specs.declared.kept.Kept as code
use Rattle.safl_evaluate.specs.Evaluating.{Unasked, UnaskedIn}
use Rattle.safl_evaluate.specs.Keeping.{is_open, cell, SelectsFirst, SelectsSecond, Below, BelowIn, Holds, without, Stood, StoodIn, IsAnew, Only, MayLook, MayLookAll, Finds, FindsAll}
use Rattle.safl_evaluate.specs.Laying.{place, LaidIn, LaidBelow}
use Rattle.safl_evaluate.specs.Plain.{plain_term, plain_body, CanCompute, CanConclude}
use Rattle.safl_evaluate.proofs.HeldByParts.{holds_frame, below_in_frame}
use Rattle.safl_evaluate.proofs.PlainByParts.{stands_not_body, not_body}
use Rattle.safl_evaluate.proofs.RunsByParts as may
use Rattle.safl_evaluate.proofs.RunsByParts.{can_is, can_all_is, once, once_in}

abbrev Asks : Type 0
Asks = List (Option (List Word))

-- ---- what differs

pub only_none : {f u : ℕ} {s : ℕ → Type 0} {A : Asks} {W : List Kept} → Only f u s A A W W
only_none = record { below = λ q x. refl; above = λ q x. refl; asks = λ k x. refl }

pub only_more : {f u g v : ℕ} {s r : ℕ → Type 0} {A A' : Asks} {W W' : List Kept} → Only f u s A A' W W' → g ≤ f → u ≤ v → ((k : ℕ) → s k → r k) → Only g v r A A' W W'
only_more h x y z = record { below = λ q m. h.below q (omega (arith, m, x)); above = λ q m. h.above q (omega (arith, m, y)); asks = λ k m. h.asks k (λ i. m (z k i)) }

pub only_both : {f u : ℕ} {s : ℕ → Type 0} {A A' A'' : Asks} {W W' W'' : List Kept} → Only f u s A A' W W' → Only f u s A' A'' W' W'' → Only f u s A A'' W W''
only_both h i = record { below = λ q m. i.below q m ∙ h.below q m; above = λ q m. i.above q m ∙ h.above q m; asks = λ k m. i.asks k m ∙ h.asks k m }

pub only_own : {p : ℕ} {s : ℕ → Type 0} {A : Asks} {W : List Kept} (x : Kept) → Only p (p + 1) s A A W (slice_set W p x)
only_own {p} {s} {A} {W} x = record {
  below = λ q m. get_or-set_other W p q x code.TheVariants.Shut (omega (arith, m));
  above = λ q m. get_or-set_other W p q x code.TheVariants.Shut (omega (arith, m));
  asks = λ k m. refl;
}

module _ {f u : ℕ} {s : ℕ → Type 0} {A A' : Asks} {W W' : List Kept} (o : Only f u s A A' W W') where
  range : (p n : ℕ) → (p + n ≤ f) ⊎ (u ≤ p) → (q : ℕ) → p ≤ q → q < p + n → cell W' q ≡ cell W q
  range p n (inl e) q x y = o.below q (omega (arith, e, y))
  range p n (inr e) q x y = o.above q (omega (arith, e, x))

  pub holds_still : (B : ℕ → Option Word) (E : List Word) (p : ℕ) (t : Term) → Holds B E A W p t → (p + nodes t ≤ f) ⊎ (u ≤ p) → ((k : ℕ) → Stands k t → s k → ⊥) → Holds B E A' W' p t
  holds_still B E p t h e apart = holds_frame B E A A' W W' p t h (range p (nodes t) e) (λ k st. o.asks k (apart k st))

  pub below_in_still : (B : ℕ → Option Word) (E : List Word) (p : ℕ) (ts : Terms) → BelowIn B E A W p ts → (p + nodes_in ts ≤ f) ⊎ (u ≤ p) →
      ((k : ℕ) → StandsIn k ts → s k → ⊥) → BelowIn B E A' W' p ts
  below_in_still B E p ts h e apart = below_in_frame B E A A' W W' p ts h (range p (nodes_in ts) e) (λ k st. o.asks k (apart k st))

  pub unasked_still : {t : Term} → Unasked A t → ((k : ℕ) → Stands k t → s k → ⊥) → Unasked A' t
  unasked_still h apart = record { none = λ k st. o.asks k (apart k st) ∙ h.none k st }

  pub unasked_in_still : {ts : Terms} → UnaskedIn A ts → ((k : ℕ) → StandsIn k ts → s k → ⊥) → UnaskedIn A' ts
  unasked_in_still h apart = record { none = λ k st. o.asks k (apart k st) ∙ h.none k st }

-- the same places
pub below_in_same : (B : ℕ → Option Word) (E : List Word) (A A' : Asks) (W : List Kept) (p : ℕ) (ts : Terms) → BelowIn B E A W p ts →
    ((k : ℕ) → StandsIn k ts → get_or A' k None ≡ get_or A k None) → BelowIn B E A' W p ts
below_in_same B E A A' W p ts h a = below_in_frame B E A A' W W p ts h (λ q x y. refl) a

-- ---- before site k returned

pub found_ready : (q : Answer) (v : Word) → Some v ≡ word_of q → q ≡ Ready v
found_ready (Ready w) v e = ap Ready (sym (same_Some v w e))
found_ready (LoopTo h vs) v e = absurd (some_none v e)
found_ready NotYet v e = absurd (some_none v e)

earlier : (B : ℕ → Option Word) (k j : ℕ) (v : Word) → without B k j ≡ Some v → B j ≡ Some v
earlier B k j v e = by (eqb k j) e
  where
    by : (b : Bool) → cond b None (B j) ≡ Some v → B j ≡ Some v
    by true e = absurd (some_none v (sym e))
    by false e = e

module _ (B : ℕ → Option Word) (E : List Word) (k : ℕ) where
  grown : (t : Term) (v : Word) → answer (without B k) E t ≡ Ready v → answer B E t ≡ Ready v
  grown t v e = answer_grows (without B k) B E t (λ j w st q. earlier B k j w q) (Ready v) e (ready_not_yet v)

  pub grown_all : (ts : Terms) (vs : List Word) → answers (without B k) E ts ≡ Some vs → answers B E ts ≡ Some vs
  grown_all ts vs e = all_grows (without B k) B E ts (λ j w st q. earlier B k j w q) vs e

  selected_first : (c : Term) → SelectsFirst (answer (without B k) E c) → SelectsFirst (answer B E c)
  selected_first c s = (s.0, grown c s.0 s.1, s.2)

  selected_second : (c : Term) → SelectsSecond (answer (without B k) E c) → SelectsSecond (answer B E c)
  selected_second c s = (s.0, grown c s.0 s.1, s.2)

  -- what was ready selected the same
  was_first : (c : Term) → SelectsFirst (answer B E c) → is_some (word_of (answer (without B k) E c)) ≡ true → SelectsFirst (answer (without B k) E c)
  was_first c s e = let r = ready_word _ e in (r.0, r.1, ap (λ w. w.bits) (ready_is r.0 s.0 (sym (grown c r.0 r.1) ∙ s.1)) ∙ s.2)

  was_second : (c : Term) → SelectsSecond (answer B E c) → is_some (word_of (answer (without B k) E c)) ≡ true → SelectsSecond (answer (without B k) E c)
  was_second c s e = let r = ready_word _ e in (r.0, r.1, λ one. s.2 (ap (λ w. w.bits) (sym (ready_is r.0 s.0 (sym (grown c r.0 r.1) ∙ s.1))) ∙ one))

pub either_branch : (q : Answer) → SelectsFirst q → SelectsSecond q → ⊥
either_branch q a b = b.2 (ap (λ w. w.bits) (sym (ready_is a.0 b.0 (sym a.1 ∙ b.1))) ∙ a.2)

pub none_first : (q : Answer) → None ≡ word_of q → SelectsFirst q → ⊥
none_first q e s = some_none s.0 (sym (e ∙ ap word_of s.1))

pub none_second : (q : Answer) → None ≡ word_of q → SelectsSecond q → ⊥
none_second q e s = some_none s.0 (sym (e ∙ ap word_of s.1))

module _ (B : ℕ → Option Word) (E : List Word) (A : Asks) (W : List Kept) (p : ℕ) where
  pub stood_condition : (news : Option ℕ) (c a b : Term) → IsAnew news (If c a b) → Stood B news E A W p (If c a b) → Stood B news E A W (p + 1) c
  unfolding Below BelowIn Stands StandsIn Once OnceIn
  stood_condition None c a b anew h = may.unasked_condition c a b h
  stood_condition (Some k) c a b anew h = (h.1 (not_body k (If c a b) anew)).0

  pub stood_bound : (news : Option ℕ) (ts : Terms) (b : Term) → IsAnew news (Let ts b) → Stood B news E A W p (Let ts b)
      → StoodIn B news E A W (p + 1 + nodes b) ts
  unfolding Below BelowIn Stands StandsIn Once OnceIn
  stood_bound None ts b anew h = may.unasked_bound ts b h
  stood_bound (Some k) ts b anew h = (h.1 (not_body k (Let ts b) anew)).0

  pub stood_op : (news : Option ℕ) (o : Primitive) (ts : Terms) → IsAnew news (Op o ts) → Stood B news E A W p (Op o ts) → StoodIn B news E A W (p + 1) ts
  unfolding Below BelowIn Stands StandsIn Once OnceIn
  stood_op None o ts anew h = may.unasked_op o ts h
  stood_op (Some k) o ts anew h = h.1 (not_body k (Op o ts) anew)

  pub stood_call : (news : Option ℕ) (f j : ℕ) (ts : Terms) → Stood B news E A W p (Call f j ts) → StoodIn B news E A W (p + 1) ts
  unfolding Below BelowIn Stands StandsIn Once OnceIn
  stood_call None f j ts h = may.unasked_call f j ts h
  stood_call (Some k) f j ts h = h.1.1

  pub stood_loop : (news : Option ℕ) (m : ℕ) (ts : Terms) → IsAnew news (Loop m ts) → Stood B news E A W p (Loop m ts) → StoodIn B news E A W (p + 1) ts
  unfolding Below BelowIn Stands StandsIn Once OnceIn
  stood_loop None m ts anew h = may.unasked_loop m ts h
  stood_loop (Some k) m ts anew h = h.1 (not_body k (Loop m ts) anew)

  pub stood_first : (news : Option ℕ) (t : Term) (ts : Terms) → StoodIn B news E A W p (Cons t ts) → Stood B news E A W p t
  unfolding Below BelowIn Stands StandsIn Once OnceIn
  stood_first None t ts h = may.unasked_first t ts h
  stood_first (Some k) t ts h = h.0

  pub stood_rest : (news : Option ℕ) (t : Term) (ts : Terms) → StoodIn B news E A W p (Cons t ts) → StoodIn B news E A W (p + nodes t) ts
  unfolding Below BelowIn Stands StandsIn Once OnceIn
  stood_rest None t ts h = record { none = λ k st. h.none k (inr st) }
  stood_rest (Some k) t ts h = h.1

  -- a call whose arguments are not ready was not asked for
  pub unasked_call_site : (news : Option ℕ) (f j : ℕ) (ts : Terms) → Stood B news E A W p (Call f j ts) → ((vs : List Word) → answers B E ts ≡ Some vs → ⊥) → get_or A j None ≡ None
  unfolding Below BelowIn Stands StandsIn Once OnceIn
  unasked_call_site None f j ts h off = h.none j (inl refl)
  unasked_call_site (Some k) f j ts h off = h.1.0 ∙ by (answers (without B k) E ts) refl
    where
      by : (o : Option (List Word)) → answers (without B k) E ts ≡ o → answers (without B k) E ts ≡ None
      by None e = e
      by (Some vs) e = absurd (off vs (grown_all B E k ts vs e))

  -- what was not selected was not asked for
  pub rest_second : (news : Option ℕ) (c a b : Term) → plain_body (If c a b) ≡ false → Stood B news E A W p (If c a b) → (SelectsSecond (answer B E c) → ⊥)
      → Unasked A b
  unfolding Below BelowIn Stands StandsIn Once OnceIn
  rest_second None c a b calls h off = record { none = λ k st. h.none k (inr (inr st)) }
  rest_second (Some k) c a b calls h off = (h.1 calls).4 (λ s. off (selected_second B E k c s))

  pub rest_first : (news : Option ℕ) (c a b : Term) → plain_body (If c a b) ≡ false → Stood B news E A W p (If c a b) → (SelectsFirst (answer B E c) → ⊥)
      → Unasked A a
  unfolding Below BelowIn Stands StandsIn Once OnceIn
  rest_first None c a b calls h off = record { none = λ k st. h.none k (inr (inl st)) }
  rest_first (Some k) c a b calls h off = (h.1 calls).2 (λ s. off (selected_first B E k c s))

  pub rest_body : (news : Option ℕ) (ts : Terms) (b : Term) → plain_body (Let ts b) ≡ false → Stood B news E A W p (Let ts b) → answers B E ts ≡ None
      → Unasked A b
  unfolding Below BelowIn Stands StandsIn Once OnceIn
  rest_body None ts b calls h none = record { none = λ k st. h.none k (inr st) }
  rest_body (Some k) ts b calls h none = by (answers (without B k) E ts) refl
    where
      by : (o : Option (List Word)) → answers (without B k) E ts ≡ o → Unasked A b
      by None e = (h.1 calls).2 e
      by (Some vs) e = absurd (some_none vs (sym (grown_all B E k ts vs e) ∙ none))

  module _ {A' : Asks} {W' : List Kept} where
    pub stood_then : (news : Option ℕ) (c a b : Term) → IsAnew news (If c a b) → Once (If c a b) → Stood B news E A W p (If c a b)
        → SelectsFirst (answer B E c) → Only (p + 1) (p + 1 + nodes c) (λ k. Stands k c) A A' W W'
        → Stood B (cond (is_open (cell W' p)) news None) E A' W' (p + 1 + nodes c) a
    unfolding Below BelowIn Stands StandsIn Once OnceIn
    stood_then None c a b anew once h s o = by (is_open (cell W' p))
      where
        fresh : Unasked A' a
        fresh = unasked_still o (record { none = λ k st. h.none k (inr (inl st)) }) (λ k st z. once.3 k z (inl st))

        by : (x : Bool) → Stood B (cond x None None) E A' W' (p + 1 + nodes c) a
        by true = fresh
        by false = fresh
    stood_then (Some k) c a b anew once h s o = by (is_open (cell W' p)) (ap is_open (o.below p (omega arith)) ∙ h.0.1)
      where
        by : (x : Bool) → x ≡ is_some (word_of (answer (without B k) E c)) → Stood B (cond x (Some k) None) E A' W' (p + 1 + nodes c) a
        by true e = holds_still o (without B k) E _ _ ((h.1 (not_body k (If c a b) anew)).1 (was_first B E k c s (sym e))) (inr (omega arith))
            (λ j st z. once.3 j z (inl st))
        by false e = unasked_still o ((h.1 (not_body k (If c a b) anew)).2 (λ z. false≢true (e
            ∙ ap (λ q. is_some (word_of q)) z.1))) (λ j st z. once.3 j z (inl st))

    pub stood_else : (news : Option ℕ) (c a b : Term) → IsAnew news (If c a b) → Once (If c a b) → Stood B news E A W p (If c a b)
        → SelectsSecond (answer B E c) → Only (p + 1) (p + 1 + nodes c) (λ k. Stands k c) A A' W W'
        → Stood B (cond (is_open (cell W' p)) news None) E A' W' (p + 1 + nodes c + nodes a) b
    unfolding Below BelowIn Stands StandsIn Once OnceIn
    stood_else None c a b anew once h s o = by (is_open (cell W' p))
      where
        fresh : Unasked A' b
        fresh = unasked_still o (record { none = λ k st. h.none k (inr (inr st)) }) (λ k st z. once.3 k z (inr st))

        by : (x : Bool) → Stood B (cond x None None) E A' W' (p + 1 + nodes c + nodes a) b
        by true = fresh
        by false = fresh
    stood_else (Some k) c a b anew once h s o = by (is_open (cell W' p)) (ap is_open (o.below p (omega arith)) ∙ h.0.1)
      where
        by : (x : Bool) → x ≡ is_some (word_of (answer (without B k) E c)) → Stood B (cond x (Some k) None) E A' W' (p + 1 + nodes c + nodes a) b
        by true e = holds_still o (without B k) E _ _ ((h.1 (not_body k (If c a b) anew)).3 (was_second B E k c s (sym e))) (inr (omega arith))
            (λ j st z. once.3 j z (inr st))
        by false e = unasked_still o ((h.1 (not_body k (If c a b) anew)).4 (λ z. false≢true (e
            ∙ ap (λ q. is_some (word_of q)) z.1))) (λ j st z. once.3 j z (inr st))

    pub stood_body : (news : Option ℕ) (ts : Terms) (b : Term) (vs : List Word) → IsAnew news (Let ts b) → Once (Let ts b) → Stood B news E A W p (Let ts b)
        → answers B E ts ≡
        Some vs → Only (p + 1 + nodes b) (p + 1 + nodes b + nodes_in ts) (λ k. StandsIn k ts) A A' W W'
        → Stood B (cond (is_open (cell W' p)) news None) (E ++ vs) A' W' (p + 1) b
    unfolding Below BelowIn Stands StandsIn Once OnceIn
    stood_body None ts b vs anew once h s o = by (is_open (cell W' p))
      where
        fresh : Unasked A' b
        fresh = unasked_still o (record { none = λ k st. h.none k (inr st) }) (λ k st z. once.2 k z st)

        by : (x : Bool) → Stood B (cond x None None) (E ++ vs) A' W' (p + 1) b
        by true = fresh
        by false = fresh
    stood_body (Some k) ts b vs anew once h s o = by (is_open (cell W' p)) (ap is_open (o.below p (omega arith)) ∙ h.0.1)
      where
        with : (x : Option (List Word)) → answers (without B k) E ts ≡ x → is_some x ≡ true → answers (without B k) E ts ≡ Some vs
        with None q e = absurd (false≢true e)
        with (Some us) q e = q ∙ (sym (grown_all B E k ts us q) ∙ s)

        by : (x : Bool) → x ≡ is_some (answers (without B k) E ts) → Stood B (cond x (Some k) None) (E ++ vs) A' W' (p + 1) b
        by true e = holds_still o (without B k) (E ++ vs) _ _ ((h.1 (not_body k (Let ts b) anew)).1 vs (with (answers (without B k) E ts) refl (sym e))) (inl
            (omega arith)) (λ j st z. once.2 j z st)
        by false e = unasked_still o ((h.1 (not_body k (Let ts b) anew)).2 (none (answers (without B k) E ts) (sym e))) (λ j st z. once.2 j z st)
          where
            none : (y : Option (List Word)) → is_some y ≡ false → y ≡ None
            none None q = refl
            none (Some us) q = absurd (false≢true (sym q))

-- ---- what may be looked at

module _ {S : List Stage} {P : List Place} {A : Asks} {F : List Word} {W : List Kept} where
  pub look_at : {m n q r : ℕ} {x y : Option ℕ} {t : Term} → m ≡ n → q ≡ r → x ≡ y → MayLook S P A F W n r y t → MayLook S P A F W m q x t
  look_at {m} {n} {q} {r} {x} {y} {t} d e f h = subst (λ i. MayLook S P A F W i q x t) (sym d) (subst (λ i. MayLook S P A F W n i x t) (sym e) (subst (λ o. MayLook S P A F W n r o t) (sym f) h))

  pub look_all_at : {m n q r : ℕ} {x y : Option ℕ} {ts : Terms} → m ≡ n → q ≡ r → x ≡ y → MayLookAll S P A F W n r y ts → MayLookAll S P A F W m q x ts
  look_all_at {m} {n} {q} {r} {x} {y} {ts} d e f h = subst (λ i. MayLookAll S P A F W i q x ts) (sym d)
      (subst (λ i. MayLookAll S P A F W n i x ts) (sym e) (subst (λ o. MayLookAll S P A F W n r o ts) (sym f) h))

  pub look_is : {n p : ℕ} {news : Option ℕ} {t u : Term} → t ≡ u → MayLook S P A F W n p news t → MayLook S P A F W n p news u
  look_is {n} {p} {news} e h = subst (λ x. MayLook S P A F W n p news x) e h

  pub look_all_is : {n p : ℕ} {news : Option ℕ} {ts us : Terms} → ts ≡ us → MayLookAll S P A F W n p news ts → MayLookAll S P A F W n p news us
  look_all_is {n} {p} {news} e h = subst (λ x. MayLookAll S P A F W n p news x) e h

-- terms that may be looked at may be so with other words behind the slots
pub may_still : {S : List Stage} {P : List Place} {A : Asks} {F G : List Word} {W : List Kept} {n p : ℕ} {news : Option ℕ} {ts : Terms} →
    length G ≡ length F → take n G ≡ take n F → MayLookAll S P A F W n p news ts → MayLookAll S P A G W n p news ts
may_still {S} {P} {A} {F} {G} {W} {n} {p} {news} {ts} long kept h = record {
  can = can_all_is refl (sym kept) refl h.can;
  room = omega (arith, h.room, long);
  laid = h.laid;
  places = h.places;
  cells = h.cells;
  stood = subst (λ (E : List Word). StoodIn (back_at S) news E A W p ts) (sym kept) h.stood;
}

-- a term that may be looked at, and is plain, may be computed
pub may_compute : {S : List Stage} {P : List Place} {A : Asks} {F : List Word} {W : List Kept} {n p : ℕ} {news : Option ℕ} {t : Term} →
    MayLook S P A F W n p news t → plain_term t ≡ true → CanCompute F n t
may_compute {S} {P} {A} h e = record { stages = S; sites = length A; can = h.can; room = h.room; plain = e }

pub may_conclude : {S : List Stage} {P : List Place} {A : Asks} {F : List Word} {W : List Kept} {n p : ℕ} {news : Option ℕ} {t : Term} →
    MayLook S P A F W n p news t → plain_body t ≡ true → CanConclude F n t
may_conclude {S} {P} {A} h e = record { stages = S; sites = length A; can = h.can; room = h.room; plain = e }

-- of the parts of a plain body nothing is kept
pub may_anew : {S : List Stage} {P : List Place} {A : Asks} {F : List Word} {W : List Kept} {n p : ℕ} {news : Option ℕ} {t : Term} {flag : Bool} →
    MayLook S P A F W n p news t → flag ≡ plain_body t → MayLook S P A F W n p (cond flag None news) t
may_anew {S} {P} {A} {F} {W} {n} {p} {news} {t} {flag} h e = record {
  can = h.can;
  room = h.room;
  laid = h.laid;
  places = h.places;
  cells = h.cells;
  stood = by flag e;
}
  where
    by : (b : Bool) → b ≡ plain_body t → Stood (back_at S) (cond b None news) (take n F) A W p t
    by true q = record { none = λ k st. absurd (false≢true (sym (stands_not_body k t st) ∙ sym q)) }
    by false q = h.stood

-- the first words of a table, by their number under another name
pub kept_at : {m n : ℕ} (F G : List Word) → m ≡ n → take m G ≡ take m F → take n G ≡ take n F
kept_at {m} {n} F G e h = subst (λ i. take i G ≡ take i F) e h

module _ {S : List Stage} {P : List Place} {A : Asks} {F : List Word} {W : List Kept} {n p : ℕ} {news : Option ℕ} where
  pub may_condition : {c a b : Term} → IsAnew news (If c a b) → MayLook S P A F W n p news (If c a b) → MayLook S P A F W n (p + 1) news c
  unfolding LaidBelow LaidIn
  may_condition {c} {a} {b} anew h = record {
    can = may.can_condition c a b h.can;
    room = omega (arith, h.room);
    laid = h.laid.1.0;
    places = omega (arith, h.places);
    cells = omega (arith, h.cells);
    stood = stood_condition (back_at S) (take n F) A W p news c a b anew h.stood;
  }

  pub may_bound : {ts : Terms} {b : Term} → IsAnew news (Let ts b) → MayLook S P A F W n p news (Let ts b) → MayLookAll S P A F W n (p + 1 + nodes b) news ts
  unfolding LaidBelow LaidIn
  may_bound {ts} {b} anew h = record {
    can = may.can_bound ts b h.can;
    room = omega (arith, h.room);
    laid = h.laid.1.0;
    places = omega (arith, h.places);
    cells = omega (arith, h.cells);
    stood = stood_bound (back_at S) (take n F) A W p news ts b anew h.stood;
  }

  pub may_op : {o : Primitive} {ts : Terms} → IsAnew news (Op o ts) → MayLook S P A F W n p news (Op o ts) → MayLookAll S P A F W n (p + 1) news ts
  unfolding LaidBelow LaidIn
  may_op {o} {ts} anew h = record {
    can = may.can_op o ts h.can;
    room = omega (arith, h.room);
    laid = h.laid.1;
    places = omega (arith, h.places);
    cells = omega (arith, h.cells);
    stood = stood_op (back_at S) (take n F) A W p news o ts anew h.stood;
  }

  pub may_call : {f j : ℕ} {ts : Terms} → MayLook S P A F W n p news (Call f j ts) → MayLookAll S P A F W n (p + 1) news ts
  unfolding LaidBelow LaidIn
  may_call {f} {j} {ts} h = record {
    can = may.can_call f j ts h.can;
    room = omega (arith, h.room);
    laid = h.laid.1;
    places = omega (arith, h.places);
    cells = omega (arith, h.cells);
    stood = stood_call (back_at S) (take n F) A W p news f j ts h.stood;
  }

  pub may_loop : {m : ℕ} {ts : Terms} → IsAnew news (Loop m ts) → MayLook S P A F W n p news (Loop m ts) → MayLookAll S P A F W n (p + 1) news ts
  unfolding LaidBelow LaidIn
  may_loop {m} {ts} anew h = record {
    can = may.can_loop m ts h.can;
    room = omega (arith, h.room);
    laid = h.laid.1;
    places = omega (arith, h.places);
    cells = omega (arith, h.cells);
    stood = stood_loop (back_at S) (take n F) A W p news m ts anew h.stood;
  }

  pub may_first : {t : Term} {ts : Terms} → MayLookAll S P A F W n p news (Cons t ts) → MayLook S P A F W n p news t
  unfolding LaidBelow LaidIn
  may_first {t} {ts} h = record {
    can = may.can_first t ts h.can;
    room = omega (arith, h.room);
    laid = h.laid.0;
    places = omega (arith, h.places);
    cells = omega (arith, h.cells);
    stood = stood_first (back_at S) (take n F) A W p news t ts h.stood;
  }

  -- a branch and a body have places
  pub branch_place : {c a b : Term} → MayLook S P A F W n p news (If c a b) → p + 1 + nodes c < length P
  branch_place {c} {a} {b} h = omega (arith, h.places, some_nodes a)

  pub body_place : {ts : Terms} {b : Term} → MayLook S P A F W n p news (Let ts b) → p + 1 < length P
  body_place {ts} {b} h = omega (arith, h.places, some_nodes b)

  -- the place after the condition, after the first branch, after a let's body, and after the first of several terms
  pub after_condition : {c a b : Term} → MayLook S P A F W n p news (If c a b) → (place P (p + 1)).next ≡ p + 1 + nodes c
  unfolding LaidBelow LaidIn
  after_condition h = h.laid.1.0.0.next

  pub after_then : {c a b : Term} → MayLook S P A F W n p news (If c a b) → (place P (p + 1 + nodes c)).next ≡ p + 1 + nodes c + nodes a
  unfolding LaidBelow LaidIn
  after_then h = h.laid.1.1.0.next

  pub after_body : {ts : Terms} {b : Term} → MayLook S P A F W n p news (Let ts b) → (place P (p + 1)).next ≡ p + 1 + nodes b
  unfolding LaidBelow LaidIn
  after_body h = h.laid.1.1.next

  pub after_first : {t : Term} {ts : Terms} → MayLookAll S P A F W n p news (Cons t ts) → (place P p).next ≡ p + nodes t
  unfolding LaidBelow LaidIn
  after_first h = h.laid.0.0.next

  module _ {A' : Asks} {F' : List Word} {W' : List Kept} (la : length A' ≡ length A) (lf : length F' ≡ length F) (lw : length W' ≡ length W) (kept : take n F' ≡ take n F) where
    pub may_then : {c a b : Term} (v : Word) → IsAnew news (If c a b) → MayLook S P A F W n p news (If c a b) → Finds S A A' F W W' n (p + 1) c (Some v)
        → v.bits ≡ 1
        → {m q : ℕ} {x : Option ℕ} → m ≡ n → q ≡ p + 1 + nodes c → x ≡ cond (is_open (cell W' p)) news None → MayLook S P A' F' W' m q x a
    unfolding LaidBelow LaidIn Once OnceIn
    may_then {c} {a} {b} v anew h fc one d e f = look_at d e f (record {
      can = can_is (sym la) (sym kept) refl (may.can_then c a b h.can);
      room = omega (arith, h.room, lf);
      laid = h.laid.1.1;
      places = omega (arith, h.places);
      cells = omega (arith, h.cells, lw);
      stood = subst (λ l. Stood (back_at S) (cond (is_open (cell W' p)) news None) l A' W' (p + 1 + nodes c) a) (sym kept)
          (stood_then (back_at S) (take n F) A W p news c a b anew (once (If c a b) h.can) h.stood (v, found_ready _ v fc.word, one) fc.only);
    })

    pub may_else : {c a b : Term} (v : Word) → IsAnew news (If c a b) → MayLook S P A F W n p news (If c a b) → Finds S A A' F W W' n (p + 1) c (Some v)
        → (v.bits ≡ 1 → ⊥)
        → {m q : ℕ} {x : Option ℕ} → m ≡ n → q ≡ p + 1 + nodes c + nodes a → x ≡ cond (is_open (cell W' p)) news None → MayLook S P A' F' W' m q x b
    unfolding LaidBelow LaidIn Once OnceIn
    may_else {c} {a} {b} v anew h fc other d e f = look_at d e f (record {
      can = can_is (sym la) (sym kept) refl (may.can_else c a b h.can);
      room = omega (arith, h.room, lf);
      laid = h.laid.1.2;
      places = omega (arith, h.places);
      cells = omega (arith, h.cells, lw);
      stood = subst (λ l. Stood (back_at S) (cond (is_open (cell W' p)) news None) l A' W' (p + 1 + nodes c + nodes a) b) (sym kept)
          (stood_else (back_at S) (take n F) A W p news c a b anew (once (If c a b) h.can) h.stood (v, found_ready _ v fc.word, other) fc.only);
    })

    pub may_body : {ts : Terms} {b : Term} (vs : List Word) → IsAnew news (Let ts b) → MayLook S P A F W n p news (Let ts b)
        → FindsAll S A A' F W W' n (p + 1 + nodes b) ts (Some vs)
        → {m q : ℕ} {x : Option ℕ} → take m F' ≡ take n F ++ vs → m + nodes b ≤ length F → q ≡ p + 1 → x ≡ cond (is_open (cell W' p)) news None → MayLook S P A' F' W' m q x b
    unfolding LaidBelow LaidIn Once OnceIn
    may_body {ts} {b} vs anew h fs {m} d room e f = look_at refl e f (record {
      can = can_is (sym la) (sym d) refl (may.can_body ts b vs h.can fs.words);
      room = omega (arith, room, lf);
      laid = (h.laid.1.1, h.laid.1.2);
      places = omega (arith, h.places);
      cells = omega (arith, h.cells, lw);
      stood = subst (λ l. Stood (back_at S) (cond (is_open (cell W' p)) news None) l A' W' (p + 1) b) (sym d)
          (stood_body (back_at S) (take n F) A W p news ts b vs anew (once (Let ts b) h.can) h.stood fs.words fs.only);
    })

    pub may_rest : {t : Term} {ts : Terms} {o : Option Word} → MayLookAll S P A F W n p news (Cons t ts) → Finds S A A' F W W' n p t o
        → {q : ℕ} → q ≡ p + nodes t → MayLookAll S P A' F' W' n q news ts
    unfolding LaidBelow LaidIn Once OnceIn
    may_rest {t} {ts} h ft e = look_all_at refl e refl (record {
      can = can_all_is (sym la) (sym kept) refl (may.can_rest t ts h.can);
      room = omega (arith, h.room, lf);
      laid = h.laid.1;
      places = omega (arith, h.places);
      cells = omega (arith, h.cells, lw);
      stood = subst (λ l. StoodIn (back_at S) news l A' W' (p + nodes t) ts) (sym kept) (by news (stood_rest (back_at S) (take n F) A W p news t ts h.stood));
    })
      where
        apart : (k : ℕ) → StandsIn k ts → Stands k t → ⊥
        apart k st z = (once_in (Cons t ts) h.can).2 k z st

        by : (x : Option ℕ) → StoodIn (back_at S) x (take n F) A W (p + nodes t) ts → StoodIn (back_at S) x (take n F) A' W' (p + nodes t) ts
        by None z = unasked_in_still ft.only z apart
        by (Some k) z = below_in_still ft.only (without (back_at S) k) (take n F) _ _ z (inr (omega arith)) apart
