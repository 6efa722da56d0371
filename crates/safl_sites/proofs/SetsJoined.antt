-- What joins the sets of the sites in a term, by its parts.
use Rattle.safl_sites.proofs.Common.{Adds, Call, Cons, Const, Has, HasAt, If, Let, Loop, Nil, Op, Primitive, Program, Reaches, SiteSet}
use Rattle.safl_sites.proofs.Common.{Term, Terms, Var, Word, cases_eq, get_or-set_at, get_or-set_other, no_set}
use Rattle.std.proofs.Common.{◌≡◌, ℕ, ◌<◌, List, length, get_or, slice_set, sym, subst, inl, inr}
use Rattle.safl_term.specs.Standing.{Stands}
use Rattle.safl_sites.specs.Parallel.{After, Marked, MarkedIn}
use Rattle.safl_sites.proofs.AddsInSteps.{adds_as, adds_none, adds_then, adds_by}

-- by the node of a term
module _ (C : Program) (B : Type 0) (k b : ℕ) {t : Term} where
  pub mark_if : {X Y Z W : Type 0} {c x y : Term} → t ≡ If c x y → Adds X Y (Marked C B k b c) → Adds Y Z (Marked C B k b x) → Adds Z W (Marked C B k b y) → Adds X W (Marked C B k b t)
  unfolding Stands After
  mark_if e f g h =
      adds_by (Marked C B k b) e (adds_as
      (λ h. elim h [
        | inl h ↦ elim h [
          | inl h ↦ elim h [ inl (s, q) ↦ inl (inl s, q) | inr p ↦ inr (inl p) ]
          | inr h ↦ elim h [ inl (s, q) ↦ inl (inr (inl s), q) | inr p ↦ inr (inr (inl p)) ]
        ]
        | inr h ↦ elim h [ inl (s, q) ↦ inl (inr (inr s), q) | inr p ↦ inr (inr (inr p)) ]
      ])
      (λ h. elim h [
        | inl (s, q) ↦ elim s [ inl s ↦ inl (inl (inl (s, q))) | inr s ↦ elim s [ inl s ↦ inl (inr (inl (s, q))) | inr s ↦ inr (inl (s, q)) ] ]
        | inr p ↦ elim p [ inl p ↦ inl (inl (inr p)) | inr p ↦ elim p [ inl p ↦ inl (inr (inr p)) | inr p ↦ inr (inr p) ] ]
      ])
      (adds_then (adds_then f g) h))

  pub mark_let : {X Y Z : Type 0} {ts : Terms} {x : Term} → t ≡ Let ts x → Adds X Y (MarkedIn C B k b ts) → Adds Y Z (Marked C B k b x) → Adds X Z (Marked C B k b t)
  unfolding Stands After
  mark_let e f g =
      adds_by (Marked C B k b) e (adds_as
      (λ h. elim h [
        | inl h ↦ elim h [ inl (s, q) ↦ inl (inl s, q) | inr p ↦ inr (inl p) ]
        | inr h ↦ elim h [ inl (s, q) ↦ inl (inr s, q) | inr p ↦ inr (inr p) ]
      ])
      (λ h. elim h [
        | inl (s, q) ↦ elim s [ inl s ↦ inl (inl (s, q)) | inr s ↦ inr (inl (s, q)) ]
        | inr p ↦ elim p [ inl p ↦ inl (inr p) | inr p ↦ inr (inr p) ]
      ])
      (adds_then f g))

  pub mark_op : {X Y : Type 0} {o : Primitive} {ts : Terms} → t ≡ Op o ts → Adds X Y (MarkedIn C B k b ts) → Adds X Y (Marked C B k b t)
  unfolding Stands After
  mark_op e h = adds_by (Marked C B k b) e h

  pub mark_loop : {X Y : Type 0} {f : ℕ} {ts : Terms} → t ≡ Loop f ts → Adds X Y (MarkedIn C B k b ts) → Adds X Y (Marked C B k b t)
  unfolding Stands After
  mark_loop e h = adds_by (Marked C B k b) e h

  pub mark_call : {X Y Z : Type 0} {f j : ℕ} {ts : Terms} → t ≡ Call f j ts → Adds X Y ((j ≡ b) × B) → Adds Y Z (MarkedIn C B k b ts) → Adds X Z (Marked C B k b t)
  unfolding Stands After
  mark_call e f g =
      adds_by (Marked C B k b) e (adds_as
      (λ h. elim h [ inl (e, q) ↦ inl (inl e, q) | inr h ↦ elim h [ inl (s, q) ↦ inl (inr s, q) | inr p ↦ inr p ] ])
      (λ h. elim h [ inl (s, q) ↦ elim s [ inl e ↦ inl (e, q) | inr s ↦ inr (inl (s, q)) ] | inr p ↦ inr (inr p) ])
      (adds_then f g))

  pub mark_const : {X : Type 0} {w : Word} → t ≡ Const w → Adds X X (Marked C B k b t)
  unfolding Stands After
  mark_const e = adds_by (Marked C B k b) e (adds_none (λ h. elim h [ inl (s, q) ↦ s | inr p ↦ p ]))

  pub mark_var : {X : Type 0} {i : ℕ} → t ≡ Var i → Adds X X (Marked C B k b t)
  unfolding Stands After
  mark_var e = adds_by (Marked C B k b) e (adds_none (λ h. elim h [ inl (s, q) ↦ s | inr p ↦ p ]))

-- the terms after the first have before them what is in reach of it
pub mark_more : (C : Program) (B : Type 0) (k b : ℕ) {X Y Z L : Type 0} (t : Term) (ts : Terms) → Adds B L (Reaches C k t) → Adds X Y (Marked C B k b t)
    → Adds Y Z (MarkedIn C L k b ts) → Adds X Z (MarkedIn C B k b (Cons t ts))
unfolding Stands After
mark_more C B k b t ts later f g =
    adds_as
    (λ h. elim h [
      | inl h ↦ elim h [ inl (s, q) ↦ inl (inl s, q) | inr p ↦ inr (inl (inl p)) ]
      | inr h ↦ elim h [
        | inl (s, q) ↦ elim (later.splits q) [ inl q ↦ inl (inr s, q) | inr r ↦ inr (inr (r, s)) ]
        | inr p ↦ inr (inl (inr p))
      ]
    ])
    (λ h. elim h [
      | inl (s, q) ↦ elim s [ inl s ↦ inl (inl (s, q)) | inr s ↦ inr (inl (s, later.stays q)) ]
      | inr p ↦ elim p [
        | inl p ↦ elim p [ inl p ↦ inl (inr p) | inr p ↦ inr (inr p) ]
        | inr (r, s) ↦ inr (inl (s, later.joins r))
      ]
    ])
    (adds_then f g)

pub mark_nil : (C : Program) (B : Type 0) (k b : ℕ) {X : Type 0} → Adds X X (MarkedIn C B k b Nil)
unfolding Stands After
mark_nil C B k b = adds_none (λ h. elim h [ inl (s, q) ↦ s | inr p ↦ p ])

-- a set of a table with more in it
pub set_more : (sets : List SiteSet) (i : ℕ) (set : SiteSet) (b k : ℕ) {P : Type 0} → i < length sets → Adds (HasAt sets i k) (Has set k) P → Adds
    (HasAt sets b k) (HasAt (slice_set sets i set) b k) ((i ≡ b) × P)
set_more sets i set b k within h =
    elim (cases_eq b i) [
      | inr n ↦
          let e : get_or (slice_set sets i set) b no_set ≡ get_or sets b no_set = get_or-set_other sets i b set no_set n in
          record {
            splits = λ y. inl (subst (λ (r : SiteSet). Has r k) e y);
            stays = λ y. subst (λ (r : SiteSet). Has r k) (sym e) y;
            joins = λ (f, p). absurd (n (sym f));
          }
      | inl f ↦
          let e : get_or (slice_set sets i set) b no_set ≡ set = get_or-set_at sets i b set no_set f within in
          record {
            splits = λ y. elim (h.splits (subst (λ (r : SiteSet). Has r k) e y)) [ inl z ↦ inl (subst (λ n. HasAt sets n k) (sym f) z) | inr p ↦ inr (sym f, p) ];
            stays = λ y. subst (λ (r : SiteSet). Has r k) (sym e) (h.stays (subst (λ n. HasAt sets n k) f y));
            joins = λ (g, p). subst (λ (r : SiteSet). Has r k) (sym e) (h.joins p);
          }
    ]
