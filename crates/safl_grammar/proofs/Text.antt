-- A reading of whole texts: a value exactly where it is spelled, and else the first fault.
use Rattle.std.proofs.Common.{◌≡◌, ℕ, ◌≤◌, ◌<◌, Bool, true, List, [], ◌∷◌, ◌++◌, length, Option, None, Ok, Err, refl, sym, ap, subst, ◌∙◌, inl, inr, append_assoc, length-append, arith}
use Rattle.std.specs.Prelude.{◌⊎◌}
use Rattle.std.proofs.lemmas.List.{append-nil}
use Rattle.safl_grammar.specs.Sets.{Set, within}
use Rattle.safl_grammar.specs.Syntax.{Rule, Deep, Unexpected, Range, Syntax}
use Rattle.safl_grammar.specs.Reading.{Read, Reading, ◌>>=◌, head_of}
use Rattle.safl_grammar.specs.Text.{Begins, Breaks, Spells, Faults, order_of, at_end, read_whole}
use Rattle.safl_grammar.proofs.Parses.{Parses, At, Next, IsLimit, Ends, Past, Stops, rank, value, fault, ok_parts, err_parts, bind_ok, bind_err, cuts}

module _ {T A : Type 0} (code : Option T → ℕ) (p : Reading T A) (grammar : ℕ → Syntax T A) (k : ℕ) (N : Bool) (G L F : Set)
    (parses : (n : ℕ) → Parses code p (grammar k) (grammar n) N G L F) (ends_text : within F (code None) ≡ true) where
  whole : (w : List T) → w ++ [] ≡ w
  whole w = append-nil w

  ended_ok : (x : A) (r : List T) (y : A) (v : List T) → at_end (x, r) ≡ value y v → (x ≡ y) × (r ≡ []) × (v ≡ [])
  ended_ok x [] y v e = let q = ok_parts x y [] v e in (q.0, refl, sym q.1)
  ended_ok x (t ∷ r) y v e = absurd cc

  -- where it is derived, no other token was wanted
  ends_whole : (n : ℕ) (w : List T) (x : A) → (grammar n).derives w x → Ends (p w) x []
  ends_whole n w x d = subst (λ (l : List T). Ends (p l) x []) (whole w) ((parses n).ends w [] x d ends_text)

  limit_at : (n : ℕ) (e : Rule) (w u v : List T) → w ≡ u ++ v → (grammar n).passes e u (head_of v) → Stops e (p w) v
  limit_at n e w u v i l = subst (λ (l : List T). Stops e (p l) v) (sym i) ((parses n).limit e u v l)

  pub spelled : (w : List T) (x : A) (v : List T) → read_whole p w ≡ Ok (x, v) → Spells grammar w x
  spelled w x v e =
      let b = bind_ok (p w) at_end (x, v) e in
      let q = ended_ok b.0.0 b.0.1 x v b.2 in
      let d = (parses k).done w b.0.1 b.0.0 b.1 in
      record {
        derived = (k, subst (λ (l : List T). (grammar k).derives l x) (sym (d.1 ∙ ap (λ (l : List T). d.0 ++ l) q.1 ∙ whole d.0)) (subst (λ (y : A). (grammar k).derives d.0 y) q.0 d.2));
        kept = λ e u rest i n l. subst (λ (y : Read T A). Stops e y rest) b.1 (limit_at n e w u rest i l);
      }

  from_ends : (w : List T) (x : A) (y : Read T A) → p w ≡ y → Spells grammar w x → Ends y x [] → (y >>= at_end) ≡ Ok (x, [])
  from_ends w x (Ok y) i s h = ap at_end (ap (λ (a : A). (a, y.1)) h.0 ∙ ap (λ (l : List T). (x, l)) h.1)
  from_ends w x (Err f) i s h = let d = (parses k).bad w f.1 f.0 i in absurd (no_limit f.0 d.0 f.1 d.1 h.0 d.3)
    where
      no_limit : (e : Rule) (u r : List T) → w ≡ u ++ r → IsLimit e → At (grammar k) e u r → ⊥
      no_limit Deep u r i h l = s.kept Deep u r i k l
      no_limit Unexpected u r i h l = h
      no_limit Range u r i h l = s.kept Range u r i k l.0

  pub read_again : (w : List T) (x : A) → Spells grammar w x → read_whole p w ≡ Ok (x, [])
  read_again w x s = from_ends w x (p w) refl s (ends_whole s.derived.0 w x s.derived.1)

  -- ---- the fault

  breaks : (e : Rule) (u r : List T) → At (grammar k) e u r → (e ≡ Unexpected → Breaks grammar Unexpected u r) → Breaks grammar e u r
  breaks Deep u r a b = (k, a)
  breaks Unexpected u r a b = b refl
  breaks Range u r a b = (k, a.0)

  not_derived : (w r : List T) (x : A) (n : ℕ) → p w ≡ Err (Unexpected, r) → (grammar n).derives w x → ⊥
  not_derived w r x n e d = (subst (λ (y : Read T A). Ends y x []) e (ends_whole n w x d)).0

  not_begun : (w u r : List T) (t : T) (n : ℕ) → w ≡ u ++ t ∷ r → p w ≡ Err (Unexpected, t ∷ r) → (grammar n).begins (u ++ t ∷ []) → ⊥
  not_begun w u r t n i e b =
      let j : (u ++ t ∷ []) ++ r ≡ w = append_assoc u (t ∷ []) r ∙ sym i in
      let h = subst (λ (y : Read T A). Past y r) e (subst (λ (l : List T). Past (p l) r) j ((parses n).past (u ++ t ∷ []) r b)) in
      omega (arith, h)

  unexpected : (w u r : List T) → w ≡ u ++ r → p w ≡ Err (Unexpected, r) → Breaks grammar Unexpected u r
  unexpected w u [] i e = λ x d. not_derived w [] x d.0 e (subst (λ (l : List T). (grammar d.0).derives l x) (sym (i ∙ whole u)) d.1)
  unexpected w u (t ∷ r) i e = λ b. not_begun w u r t b.0 i e b.1

  -- left over after a text
  left_over : (w u r : List T) (x : A) (t : T) → w ≡ u ++ t ∷ r → p w ≡ Ok (x, t ∷ r) → Breaks grammar Unexpected u (t ∷ r)
  left_over w u r x t i e b =
      let j : (u ++ t ∷ []) ++ r ≡ w = append_assoc u (t ∷ []) r ∙ sym i in
      let h = subst (λ (y : Read T A). Past y r) e (subst (λ (l : List T). Past (p l) r) j ((parses b.0).past (u ++ t ∷ []) r b.1)) in
      omega (arith, h)

  abbrev NoLater : List T → Rule → Rule → List T → Type 0
  NoLater u e d u' = (length u < length u') ⊎ ((length u ≡ length u') × (order_of grammar e ≤ order_of grammar d))

  order_rank : (e : Rule) → order_of grammar e ≡ rank e
  order_rank Deep = refl
  order_rank Unexpected = refl
  order_rank Range = refl

  -- a limit that is passed somewhere
  after_limit : (e d : Rule) (w u r u' v : List T) → w ≡ u ++ r → w ≡ u' ++ v → (length v < length r) ⊎ ((length v ≡ length r) × (rank e ≤ rank d)) → NoLater u e d u'
  after_limit e d w u r u' v i j (inl h) = inl (omega (arith, ap length i, ap length j, length-append u r, length-append u' v))
  after_limit e d w u r u' v i j (inr h) = inr (omega (arith, ap length i, ap length j, length-append u r, length-append u' v), omega (arith, h.1, order_rank e, order_rank d))

  same_front : (u r u' v : List T) → u ++ r ≡ u' ++ v → length u ≡ length u' → (u ≡ u') × (r ≡ v)
  same_front [] r [] v e n = (refl, e)
  same_front [] r (y ∷ u') v e n = absurd (omega arith)
  same_front (x ∷ u) r [] v e n = absurd (omega arith)
  same_front (x ∷ u) r (y ∷ u') v e n =
      let same : x ≡ y = cc in
      let rest : u ++ r ≡ u' ++ v = cc in
      let k = same_front u r u' v rest (omega arith) in
      (ap (λ (l : List T). x ∷ l) k.0 ∙ ap (λ h. h ∷ u') same, k.1)

  not_range : (e : Rule) (u r : List T) → At (grammar k) e u r → (Next (grammar k) u r → ⊥) → order_of grammar e ≤ 1
  not_range Deep u r a f = omega arith
  not_range Unexpected u r a f = omega arith
  not_range Range u r a f = absurd (f a.1)

  -- the end, where nothing is derived
  after_end : (e : Rule) (w u r u' : List T) → w ≡ u ++ r → w ≡ u' ++ [] → At (grammar k) e u r → NoLater u e Unexpected u'
  after_end e w u [] u' i j a = inr (omega (arith, ap length i, ap length j, length-append u [], length-append u' []), not_range e u [] a (λ n. n))
  after_end e w u (t ∷ r) u' i j a = inl (omega (arith, ap length i, ap length j, length-append u (t ∷ r), length-append u' []))

  in_front : (e : Rule) (u u' z : List T) (t : T) → (grammar k).begins u → (Begins grammar (u' ++ t ∷ []) → ⊥) → u ≡ (u' ++ t ∷ []) ++ z → ⊥
  in_front e u u' z t b f i = f (k, (parses k).shorter (u' ++ t ∷ []) z (subst (λ (l : List T). (grammar k).begins l) i b))

  -- a token after what begins no text
  after_token : (e : Rule) (u r u' v : List T) (t : T) → u ++ r ≡ u' ++ t ∷ v → (grammar k).begins u → At (grammar k) e u r → (Begins grammar (u' ++ t ∷ []) → ⊥) → NoLater u e Unexpected u'
  after_token e u r u' v t i b a f =
      elim (cuts u r (u' ++ t ∷ []) v (i ∙ sym (append_assoc u' (t ∷ []) v))) [
        | inl c ↦ longer c.0 c.1
        | inr c ↦ absurd (in_front e u u' c.0 t b f c.1)
      ]
    where
      not_at : length u ≡ length u' → Next (grammar k) u r → ⊥
      not_at n h =
          let q = same_front u r u' (t ∷ v) i n in
          f (k, subst (λ (l : List T). (grammar k).begins (l ++ t ∷ [])) q.0 (subst (λ (l : List T). Next (grammar k) u l) q.1 h))

      equal : length u ≡ length u' → NoLater u e Unexpected u'
      equal n = inr (n, not_range e u r a (not_at n))

      longer : (z : List T) → u' ++ t ∷ [] ≡ u ++ z → NoLater u e Unexpected u'
      longer [] j = absurd (f (k, subst (λ (l : List T). (grammar k).begins l) (sym (j ∙ whole u)) b))
      longer (x ∷ []) j = equal (omega (arith, ap length j, length-append u' (t ∷ []), length-append u (x ∷ [])))
      longer (x ∷ y ∷ z) j = inl (omega (arith, ap length j, length-append u' (t ∷ []), length-append u (x ∷ y ∷ z)))

  no_later : (e : Rule) (w u r : List T) → w ≡ u ++ r → (grammar k).begins u → At (grammar k) e u r →
      ((d : Rule) (u' v : List T) (n : ℕ) → w ≡ u' ++ v → (grammar n).passes d u' (head_of v) → NoLater u e d u') → (d : Rule) (u' v : List T) → w ≡
      u' ++ v → Breaks grammar d u' v → NoLater u e d u'
  no_later e w u r i b a lim Deep u' v j h = lim Deep u' v h.0 j h.1
  no_later e w u r i b a lim Range u' v j h = lim Range u' v h.0 j h.1
  no_later e w u r i b a lim Unexpected u' [] j h = after_end e w u r u' i j a
  no_later e w u r i b a lim Unexpected u' (t ∷ v) j h = after_token e u r u' v t (sym i ∙ j) b a h

  -- the reading itself failed
  failed : (w r : List T) (e : Rule) → p w ≡ Err (e, r) → Faults grammar w e r
  failed w r e h =
      let d = (parses k).bad w r e h in
      record {
        front = d.0;
        parts = d.1;
        broken = breaks e d.0 r d.3 (λ i. unexpected w d.0 r d.1 (h ∙ ap (λ (e : Rule). fault e r) i));
        first = no_later e w d.0 r d.1 d.2 d.3 (λ c u v n j l. after_limit e c w d.0 r u v d.1 j (subst (λ (y : Read T A). Stops c y v) h (limit_at n c w u v j l)));
      }

  -- it did not, and tokens are left
  over : (w r : List T) (x : A) (t : T) → p w ≡ Ok (x, t ∷ r) → Faults grammar w Unexpected (t ∷ r)
  over w r x t h =
      let d = (parses k).done w (t ∷ r) x h in
      record {
        front = d.0;
        parts = d.1;
        broken = left_over w d.0 r x t d.1 h;
        first = no_later Unexpected w d.0 (t ∷ r) d.1 ((parses k).covered d.0 x d.2) tt (λ c u v n j l. absurd (subst (λ (y : Read T A). Stops c y v) h (limit_at n c w u v j l)));
      }

  over_is : (w : List T) (x : A) (r v : List T) (e : Rule) → p w ≡ Ok (x, r) → at_end (x, r) ≡ fault {T = T} {A = A} e v → Faults grammar w e v
  over_is w x [] v e h i = absurd cc
  over_is w x (t ∷ r) v e h i =
      let q = err_parts {T = T} {A = A} Unexpected e (t ∷ r) v i in
      subst (λ (e : Rule). Faults grammar w e v) q.0 (subst (λ (l : List T). Faults grammar w Unexpected l) q.1 (over w r x t h))

  pub first_fault : (w r : List T) (e : Rule) → read_whole p w ≡ Err (e, r) → Faults grammar w e r
  first_fault w r e h =
      elim (bind_err (p w) at_end (e, r) h) [
        | inl b ↦ failed w r e b
        | inr b ↦ over_is w b.0.0 b.0.1 r e b.1 b.2
      ]

  -- ---- not both

  never_breaks : (w : List T) (x : A) → Spells grammar w x → (grammar k).derives w x → (e : Rule) (u v : List T) → w ≡ u ++ v → Breaks grammar e u v → ⊥
  never_breaks w x s d Deep u v i b = s.kept Deep u v i b.0 b.1
  never_breaks w x s d Range u v i b = s.kept Range u v i b.0 b.1
  never_breaks w x s d Unexpected u [] i b = b x (k, subst (λ (l : List T). (grammar k).derives l x) (i ∙ whole u) d)
  never_breaks w x s d Unexpected u (t ∷ v) i b = b (
    k,
    (parses k).shorter (u ++ t ∷ []) v
        (subst (λ (l : List T). (grammar k).begins l) (i ∙ sym (append_assoc u (t ∷ []) v)) ((parses k).covered w x d)),
  )

  derived_here : (w : List T) (x : A) → Spells grammar w x → (grammar k).derives w x
  derived_here w x s =
      let b = bind_ok (p w) at_end (x, []) (read_again w x s) in
      let q = ended_ok b.0.0 b.0.1 x [] b.2 in
      let d = (parses k).done w b.0.1 b.0.0 b.1 in
      subst (λ (l : List T). (grammar k).derives l x) (sym (d.1 ∙ ap (λ (l : List T). d.0 ++ l) q.1 ∙ whole d.0)) (subst (λ (y : A). (grammar k).derives d.0 y) q.0 d.2)

  pub not_both : (w : List T) (x : A) (e : Rule) (r : List T) → Spells grammar w x → Faults grammar w e r → ⊥
  not_both w x e r s f = never_breaks w x s (derived_here w x s) e f.front r f.parts f.broken

  order_same : (d e : Rule) → order_of grammar d ≡ order_of grammar e → d ≡ e
  order_same Deep Deep h = refl
  order_same Deep Unexpected h = absurd (omega arith)
  order_same Deep Range h = absurd (omega arith)
  order_same Unexpected Deep h = absurd (omega arith)
  order_same Unexpected Unexpected h = refl
  order_same Unexpected Range h = absurd (omega arith)
  order_same Range Deep h = absurd (omega arith)
  order_same Range Unexpected h = absurd (omega arith)
  order_same Range Range h = refl

  pub one_fault : (w : List T) (d e : Rule) (u v : List T) → Faults grammar w d u → Faults grammar w e v → (d ≡ e) × (u ≡ v)
  one_fault w d e u v f g =
      let a = f.first e g.front v g.parts g.broken in
      let b = g.first d f.front u f.parts f.broken in
      let n : length f.front ≡ length g.front = omega arith in
      let o : order_of grammar d ≡ order_of grammar e = omega arith in
      (order_same d e o, (same_front f.front u g.front v (sym f.parts ∙ g.parts) n).1)
