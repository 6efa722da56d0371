-- What comes before a site comes before it in its own body, or before a site that calls its function's unit.
use Rattle.safl_sites.proofs.Common.{Adds, Call, CheckedProgram, Cons, Const, Has, HasAt, If, IsChecked, IsSpread, Let, Loop, Nil, Op}
use Rattle.safl_sites.proofs.Common.{Program, SiteSet, Term, Terms, Var, cases_eq, get_or-set_at, get_or-set_other, no_set, unit_for}
use Rattle.std.proofs.Common.{◌≡◌, ℕ, suc, ◌<◌, ◌≤◌, ◌⊎◌, List, length-set, get_or, slice_set, refl, sym, ap, subst, ◌∙◌, inl, inr, arith}
use Rattle.safl_term.specs.Standing.{Stands, StandsIn}
use Rattle.safl_sites.specs.Conflicts.{Reaches, Here, Through}
use Rattle.safl_sites.specs.Filling.{StandsAfter}
use Rattle.safl_sites.specs.Parallel.{After, AfterIn, Before, BeforeIn, ComesBefore}
use Rattle.safl_sites.proofs.SetsJoined.{set_more}
use Rattle.safl_sites.proofs.NumbersFollow.{IsSited, sited, site_of_body, later_site, lower_before}
use Rattle.safl_sites.proofs.ReachBySites.{Hits, reaches_in_by, reaches_in_of}

module _ (C : Program) (x : ℕ) where
  mutual
    unfolding After Before

    -- the later term has a site from which k is reached
    pub before_by : (k : ℕ) (t : Term) → Before C x k t → (b : ℕ) × After C x b t × Hits C k b
    before_by k (Const w) h = absurd h
    before_by k (Var i) h = absurd h
    before_by k (Op o ts) h = before_in_by k ts h
    before_by k (If c a b) (inl h) = let (i, p, q) = before_by k c h in (i, inl p, q)
    before_by k (If c a b) (inr (inl h)) = let (i, p, q) = before_by k a h in (i, inr (inl p), q)
    before_by k (If c a b) (inr (inr h)) = let (i, p, q) = before_by k b h in (i, inr (inr p), q)
    before_by k (Let ts b) (inl h) = let (i, p, q) = before_in_by k ts h in (i, inl p, q)
    before_by k (Let ts b) (inr h) = let (i, p, q) = before_by k b h in (i, inr p, q)
    before_by k (Call f i ts) h = before_in_by k ts h
    before_by k (Loop f ts) h = before_in_by k ts h

    before_in_by : (k : ℕ) (ts : Terms) → BeforeIn C x k ts → (b : ℕ) × AfterIn C x b ts × Hits C k b
    before_in_by k Nil h = absurd h
    before_in_by k (Cons t ts) (inl (inl h)) = let (i, p, q) = before_by k t h in (i, inl (inl p), q)
    before_in_by k (Cons t ts) (inl (inr h)) = let (i, p, q) = before_in_by k ts h in (i, inl (inr p), q)
    before_in_by k (Cons t ts) (inr (r, s)) = let (i, p, q) = reaches_in_by ts s in (i, inr (r, p), q)

  mutual
    unfolding After Before

    before_of : (k b : ℕ) (t : Term) → After C x b t → Hits C k b → Before C x k t
    before_of k b (Const w) h q = absurd h
    before_of k b (Var i) h q = absurd h
    before_of k b (Op o ts) h q = before_in_of k b ts h q
    before_of k b (If c a d) (inl h) q = inl (before_of k b c h q)
    before_of k b (If c a d) (inr (inl h)) q = inr (inl (before_of k b a h q))
    before_of k b (If c a d) (inr (inr h)) q = inr (inr (before_of k b d h q))
    before_of k b (Let ts d) (inl h) q = inl (before_in_of k b ts h q)
    before_of k b (Let ts d) (inr h) q = inr (before_of k b d h q)
    before_of k b (Call f i ts) h q = before_in_of k b ts h q
    before_of k b (Loop f ts) h q = before_in_of k b ts h q

    before_in_of : (k b : ℕ) (ts : Terms) → AfterIn C x b ts → Hits C k b → BeforeIn C x k ts
    before_in_of k b Nil h q = absurd h
    before_in_of k b (Cons t ts) (inl (inl h)) q = inl (inl (before_of k b t h q))
    before_in_of k b (Cons t ts) (inl (inr h)) q = inl (inr (before_in_of k b ts h q))
    before_in_of k b (Cons t ts) (inr (r, s)) q = inr (r, reaches_in_of ts b s q)

  mutual
    unfolding After Stands

    pub after_stands : (b : ℕ) (t : Term) → After C x b t → Stands b t
    after_stands b (Const w) h = h
    after_stands b (Var i) h = h
    after_stands b (Op o ts) h = after_stands_in b ts h
    after_stands b (If c a d) (inl h) = inl (after_stands b c h)
    after_stands b (If c a d) (inr (inl h)) = inr (inl (after_stands b a h))
    after_stands b (If c a d) (inr (inr h)) = inr (inr (after_stands b d h))
    after_stands b (Let ts d) (inl h) = inl (after_stands_in b ts h)
    after_stands b (Let ts d) (inr h) = inr (after_stands b d h)
    after_stands b (Call f i ts) h = inr (after_stands_in b ts h)
    after_stands b (Loop f ts) h = after_stands_in b ts h

    after_stands_in : (b : ℕ) (ts : Terms) → AfterIn C x b ts → StandsIn b ts
    after_stands_in b Nil h = h
    after_stands_in b (Cons t ts) (inl (inl h)) = inl (after_stands b t h)
    after_stands_in b (Cons t ts) (inl (inr h)) = inr (after_stands_in b ts h)
    after_stands_in b (Cons t ts) (inr (r, s)) = inr s

-- what comes before a site that calls the unit of k's function
pub record ComesLater (C : Program) (x k : ℕ) : Type 0 where
  pub site : ℕ
  pub least : 1 ≤ site
  pub most : site ≤ C.sites
  pub unit : unit_for C site ≡ C.unit (C.caller k)
  pub before : ComesBefore C x site

module _ (p : CheckedProgram) (h : IsChecked p) where
  abbrev C : Program
  C = p.program

  -- a site that is reached stands in the term, or is called from the last site on the way
  ends : (k : ℕ) {t : Term} → ((a : ℕ) → Stands a t → IsSited p a) → Reaches C k t → Stands k t ⊎ ((a : ℕ) × Reaches C a t × IsSited p a × (unit_for C a ≡ C.unit (C.caller k)))
  ends k own (Here s) = inl s
  ends k own (Through a g s w u r) = elim (ends k (λ b q. (site_of_body p h g b w q).0) r) [
    | inl q ↦ inr (a, Here s, own a s, sym u ∙ ap C.unit (sym (site_of_body p h g k w q).1))
    | inr (b, q, sb, e) ↦ inr (b, Through a g s w u q, sb, e)
  ]

  -- and from a site that calls its function's unit it is reached where that site is
  extend : (a k : ℕ) {t : Term} → IsSited p k → unit_for C a ≡ C.unit (C.caller k) → Reaches C a t → Reaches C k t
  extend a k sk e (Here s) = Through a (C.caller k) s sk.within (sym e) (Here sk.stands)
  extend a k sk e (Through b g s w u r) = Through b g s w u (extend a k sk e r)

  pub comes_by : (x k : ℕ) → ComesBefore C x k → StandsAfter C C.functions x k ⊎ ComesLater C x k
  comes_by x k c =
      let (b, a, q) = before_by C x k (C.body c.body) c.before in
      let sb = (site_of_body p h c.body b c.is_body (after_stands C x b (C.body c.body) a)).0 in
      elim q [
        | inl e ↦ inl (record { body = c.body; is_body = c.is_body; after = subst (λ n. After C x n (C.body c.body)) e a })
        | inr r ↦ elim (ends k (λ i s. (site_of_body p h r.member i r.is_member s).0) r.reached) [
          | inl s ↦
              let e = (site_of_body p h r.member k r.is_member s).1 in
              inr (record {
                site = b;
                least = sb.least;
                most = sb.most;
                unit = sym r.unit ∙ ap C.unit (sym e);
                before = record { body = c.body; is_body = c.is_body; before = before_of C x b b (C.body c.body) a (inl refl) };
              })
          | inr (i, s, si, e) ↦ inr (record {
            site = i;
            least = si.least;
            most = si.most;
            unit = e;
            before = record {
              body = c.body;
              is_body = c.is_body;
              before = before_of C x i b (C.body c.body) a
                  (inr (record { member = r.member; is_member = r.is_member; unit = r.unit; reached = s }));
            };
          })
        ]
      ]

  pub comes_here : (x k : ℕ) → StandsAfter C C.functions x k → ComesBefore C x k
  comes_here x k s = record { body = s.body; is_body = s.is_body; before = before_of C x k k (C.body s.body) s.after (inl refl) }

  pub comes_later : (x k : ℕ) → IsSited p k → ComesLater C x k → ComesBefore C x k
  comes_later x k sk l =
      let (b, a, q) = before_by C x l.site (C.body l.before.body) l.before.before in
      let hit : Hits C k b = elim q [
        | inl e ↦ inr (record { member = C.caller k; is_member = sk.within; unit = sym l.unit ∙ ap (λ n. C.unit (C.callee n)) (sym e); reached = Here sk.stands })
        | inr r ↦ inr (record { member = r.member; is_member = r.is_member; unit = r.unit; reached = extend l.site k sk l.unit r.reached })
      ] in
      record { body = l.before.body; is_body = l.before.is_body; before = before_of C x k b (C.body l.before.body) a hit }

  -- such a site stands later
  later_than : (x k : ℕ) → IsSited p k → (l : ComesLater C x k) → k < l.site
  later_than x k sk l =
      let s = sited p h l.site l.least l.most in
      let calls = h.formed.calls l.site (omega (arith, l.least)) l.most in
      let less : C.unit (C.caller k) < C.unit (C.caller l.site) = omega (arith, calls.2, l.unit) in
      later_site p h k l.site sk s (lower_before p h (C.caller k) (C.caller l.site) sk.within s.within less)

  pub spread_more : (m k : ℕ) (sets handed : List SiteSet) (set joined : SiteSet) → k ≡ suc m → k ≤ C.sites → IsSpread C k sets handed
      → ((j : ℕ) → Adds (HasAt sets k j) (Has set j) (HasAt handed (C.unit (C.caller k)) j))
      → ((j : ℕ) → Adds (HasAt handed (unit_for C k) j) (Has joined j) (Has set j))
      → IsSpread C m (slice_set sets k set) (slice_set handed (unit_for C k) joined)
  spread_more m k sets handed set joined e most t union down =
      let sk = sited p h k (omega arith) most in
      let calls = h.formed.calls k (omega arith) most in
      let low : unit_for C k < C.functions = omega (arith, (h.formed.first (C.callee k) calls.1).0, calls.1) in
      let to : (j : ℕ) → Has set j → ComesBefore C j k = λ j x. elim ((union j).splits x) [
        | inl y ↦ comes_here j k ((t.left j k (omega arith)).0 y)
        | inr y ↦
            let d = (t.down (C.unit (C.caller k)) j).0 y in
            comes_later j k sk (record { site = d.site; least = omega (arith, d.later); most = d.most; unit = d.unit; before = d.before })
      ] in
      let from : (j : ℕ) → ComesBefore C j k → Has set j = λ j x. elim (comes_by j k x) [
        | inl y ↦ (union j).stays ((t.left j k (omega arith)).1 y)
        | inr l ↦ (union j).joins ((t.down (C.unit (C.caller k)) j).1 (record { site = l.site; later = later_than j k sk l; most = l.most; unit = l.unit; before = l.before }))
      ] in
      record {
        sets_count = length-set sets k set ∙ t.sets_count;
        handed_count = length-set handed (unit_for C k) joined ∙ t.handed_count;
        spread = λ j i less within. elim (cases_eq i k) [
          | inl f ↦
              let s : get_or (slice_set sets k set) i no_set ≡ set = get_or-set_at sets k i set no_set f (omega (arith, t.sets_count)) in
              (λ x. subst (λ n. ComesBefore C j n) (sym f) (to j (subst (λ (r : SiteSet). Has r j) s x)), λ x. subst (λ (r : SiteSet). Has r j) (sym s) (from j (subst (λ n. ComesBefore C j n) f x)))
          | inr f ↦
              let s : get_or (slice_set sets k set) i no_set ≡ get_or sets i no_set = get_or-set_other sets k i set no_set f in
              let b = t.spread j i (omega arith) within in
              (λ x. b.0 (subst (λ (r : SiteSet). Has r j) s x), λ x. subst (λ (r : SiteSet). Has r j) (sym s) (b.1 x))
        ];
        left = λ j i less.
            let s : get_or (slice_set sets k set) i no_set ≡ get_or sets i no_set = get_or-set_other sets k i set no_set (λ f. absurd (omega arith)) in
            let b = t.left j i (omega arith) in
            (λ x. b.0 (subst (λ (r : SiteSet). Has r j) s x), λ x. subst (λ (r : SiteSet). Has r j) (sym s) (b.1 x));
        down = λ u j.
            let n = set_more handed (unit_for C k) joined u j (omega (arith, t.handed_count)) (down j) in
            let b = t.down u j in (
              λ x. elim (n.splits x) [
                | inl y ↦ let d = b.0 y in record { site = d.site; later = omega (arith, d.later); most = d.most; unit = d.unit; before = d.before }
                | inr (f, y) ↦ record { site = k; later = omega arith; most = most; unit = f; before = to j y }
              ],
              λ d. elim (cases_eq d.site k) [
                | inl f ↦ n.joins (subst (λ i. unit_for C i ≡ u) f d.unit, from j (subst (λ i. ComesBefore C j i) f d.before))
                | inr f ↦ n.stays (b.1 (record { site = d.site; later = omega (arith, d.later); most = d.most; unit = d.unit; before = d.before }))
              ],
            );
      }
