-- How far terms are alike, by their parts.
use Rattle.safl_labels.proofs.Common.{Apart, Likeness, Primitive, SameTime, SameWord}
use Rattle.std.proofs.Common.{◌≡◌, Result, Ok, Err, ℕ, List, [], ◌∷◌, ◌++◌, Bool, true, false, refl, sym, ap, subst, ◌∙◌}
use Rattle.std.proofs.lemmas.Bool.{false≢true}
use Rattle.std.proofs.Math.Bool.{beq}
use Rattle.std.specs.Result.{IfOk}
use Rattle.safl_calls.specs.Labels.{Labels, label, all_public, Twins, t_const, t_var, t_plain, t_op, t_if, t_choose, t_left, t_right, t_let, t_call, t_loop, AllTwins, t_nil, t_cons, IsPlainTerm}
use Rattle.safl_term.specs.Terms.{Term, Terms, Var, Op, If, Let, Call, Loop}
use Rattle.safl_labels.specs.Likeness.{IsLike, least_of, or_time_of, suffices_for, same_if, do_fit, passed_of}

-- terms that give the same word take the same time
pub twins_less : {L : Labels} {ls : List Bool} {t u : Term} → Twins L ls t u true → Twins L ls t u false
twins_less t_const = t_const
twins_less (t_var q) = t_var (λ z. absurd (false≢true z))
twins_less (t_op ks q) = t_op ks (λ z. absurd (false≢true z))
twins_less (t_if kc kx ky) = t_if kc (twins_less kx) (twins_less ky)
twins_less (t_choose kc xu xv yu yv) = t_choose kc (twins_less xu) (twins_less xv) (twins_less yu) (twins_less yv)
twins_less (t_left p h k) = t_left p (twins_less h) (twins_less k)
twins_less (t_right p h k) = t_right p (twins_less h) (twins_less k)
twins_less (t_let ks k) = t_let ks (twins_less k)
twins_less (t_call ks q) = t_call ks (λ z. absurd (false≢true z))
twins_less (t_loop ks q) = t_loop ks (λ z. absurd (false≢true z))

module _ (L : Labels) (ls : List Bool) where
  pub var_alike : (i : ℕ) (m : Likeness) → m ≡ same_if (label ls i) → IsLike L ls (Var i) (Var i) m
  var_alike i m e = subst (IsLike L ls (Var i) (Var i)) (sym e) (by (label ls i) refl)
    where
      by : (b : Bool) → label ls i ≡ b → IsLike L ls (Var i) (Var i) (same_if b)
      by true f = t_var (λ z. f)
      by false f = t_var (λ z. absurd (false≢true z))

  pub least_left : (t u : Term) (a b : Likeness) → IsLike L ls t u a → IsLike L ls t u (least_of a b)
  least_left t u Apart b h = tt
  least_left t u SameTime Apart h = tt
  least_left t u SameTime SameTime h = h
  least_left t u SameTime SameWord h = h
  least_left t u SameWord Apart h = tt
  least_left t u SameWord SameTime h = twins_less h
  least_left t u SameWord SameWord h = h

  pub least_right : (t u : Term) (a b : Likeness) → IsLike L ls t u b → IsLike L ls t u (least_of a b)
  least_right t u Apart b h = tt
  least_right t u SameTime Apart h = tt
  least_right t u SameTime SameTime h = h
  least_right t u SameTime SameWord h = twins_less h
  least_right t u SameWord b h = h

  pub plain_alike : (t u : Term) (m : Likeness) (plain : Bool) → (plain ≡ true → IsPlainTerm t) → (plain ≡ true → IsPlainTerm u) → IsLike L ls t u m
      → IsLike L ls t u (or_time_of m plain)
  plain_alike t u Apart true p q h = t_plain (p refl) (q refl)
  plain_alike t u Apart false p q h = tt
  plain_alike t u SameTime plain p q h = h
  plain_alike t u SameWord plain p q h = h

  pub left_alike : (c x y u : Term) (a b : Likeness) → IsPlainTerm c → IsLike L ls x u a → IsLike L ls y u b → IsLike L ls (If c x y) u (least_of a b)
  left_alike c x y u a b p h k = by (least_of a b) (least_left x u a b h) (least_right y u a b k)
    where
      by : (m : Likeness) → IsLike L ls x u m → IsLike L ls y u m → IsLike L ls (If c x y) u m
      by Apart h k = tt
      by SameTime h k = t_left p h k
      by SameWord h k = t_left p h k

  pub right_alike : (t c u v : Term) (a b : Likeness) → IsPlainTerm c → IsLike L ls t u a → IsLike L ls t v b → IsLike L ls t (If c u v) (least_of a b)
  right_alike t c u v a b p h k = by (least_of a b) (least_left t u a b h) (least_right t v a b k)
    where
      by : (m : Likeness) → IsLike L ls t u m → IsLike L ls t v m → IsLike L ls t (If c u v) m
      by Apart h k = tt
      by SameTime h k = t_right p h k
      by SameWord h k = t_right p h k

  -- ifs whose conditions give the same word
  pub ifs_alike : (c d x y u v : Term) (a b : Likeness) → Twins L ls c d true → IsLike L ls x u a → IsLike L ls y v b
      → IsLike L ls (If c x y) (If d u v) (least_of a b)
  ifs_alike c d x y u v a b kc h k = by (least_of a b) (least_left x u a b h) (least_right y v a b k)
    where
      by : (m : Likeness) → IsLike L ls x u m → IsLike L ls y v m → IsLike L ls (If c x y) (If d u v) m
      by Apart h k = tt
      by SameTime h k = t_if kc h k
      by SameWord h k = t_if kc h k

  -- ifs whose conditions take the same time
  pub choices_alike : (c d x y u v : Term) (a b m : Likeness) → Twins L ls c d false → IsLike L ls x u a → IsLike L ls y v b → IsLike L ls x v m → IsLike L ls y u m
      → IsLike L ls (If c x y) (If d u v) (least_of (least_of a b) m)
  choices_alike c d x y u v a b m kc xu yv xv yu =
      let s = least_of a b in
      by (least_of s m) (least_left x u s m (least_left x u a b xu)) (least_right x v s m xv) (least_right y u s m yu) (least_left y v s m (least_right y v a b yv))
    where
      by : (n : Likeness) → IsLike L ls x u n → IsLike L ls x v n → IsLike L ls y u n → IsLike L ls y v n → IsLike L ls (If c x y) (If d u v) n
      by Apart xu xv yu yv = tt
      by SameTime xu xv yu yv = t_choose kc xu xv yu yv
      by SameWord xu xv yu yv = t_choose kc xu xv yu yv

  pub ops_alike : (o : Primitive) (ts us : Terms) (found : List Bool) (m : Likeness) → AllTwins L ls ts us found → m ≡ same_if (all_public found) → IsLike L ls (Op o ts) (Op o us) m
  ops_alike o ts us found m ks e = subst (IsLike L ls (Op o ts) (Op o us)) (sym e) (by (all_public found) refl)
    where
      by : (b : Bool) → all_public found ≡ b → IsLike L ls (Op o ts) (Op o us) (same_if b)
      by true f = t_op ks (λ z. f)
      by false f = t_op ks (λ z. absurd (false≢true z))

  pub ops_by : (o : Primitive) (ts us : Terms) (u : Term) (found bs : List Bool) (b : Bool) (m : Likeness) → u ≡ Op o us → AllTwins L ls ts us found → bs ≡ found
      → b ≡ all_public bs → m ≡ same_if b → IsLike L ls (Op o ts) u m
  ops_by o ts us u found bs b m e ks f g h =
      subst (λ (x : Term). IsLike L ls (Op o ts) x m) (sym e) (ops_alike o ts us found m ks (h ∙ ap same_if (g ∙ ap all_public f)))

  pub lets_alike : (ts us : Terms) (x y : Term) (found : List Bool) (m : Likeness) → AllTwins L ls ts us found → IsLike L (ls ++ found) x y m
      → IsLike L ls (Let ts x) (Let us y) m
  lets_alike ts us x y found Apart ks k = tt
  lets_alike ts us x y found SameTime ks k = t_let ks k
  lets_alike ts us x y found SameWord ks k = t_let ks k

  -- less may be public
  pub all_fit : (ts us : Terms) (found params : List Bool) → do_fit found params ≡ true → AllTwins L ls ts us found → AllTwins L ls ts us params
  all_fit _ _ [] [] e t_nil = t_nil
  all_fit _ _ [] (p ∷ ps) e ks = absurd (false≢true e)
  all_fit _ _ (b ∷ bs) [] e ks = absurd (false≢true e)
  all_fit _ _ (true ∷ bs) (true ∷ ps) e (t_cons {ts = ts} {us = us} k ks) = t_cons k (all_fit ts us bs ps e ks)
  all_fit _ _ (true ∷ bs) (false ∷ ps) e (t_cons {ts = ts} {us = us} k ks) = t_cons (twins_less k) (all_fit ts us bs ps e ks)
  all_fit _ _ (false ∷ bs) (true ∷ ps) e (t_cons k ks) = absurd (false≢true e)
  all_fit _ _ (false ∷ bs) (false ∷ ps) e (t_cons {ts = ts} {us = us} k ks) = t_cons k (all_fit ts us bs ps e ks)

  pub calls_alike : (f k : ℕ) (ts us : Terms) (found : List Bool) → AllTwins L ls ts us found → IsLike L ls (Call f k ts) (Call f k us) (passed_of L f found)
  calls_alike f k ts us found ks = by (do_fit found (L.params f)) refl (L.result f) refl
    where
      by : (b : Bool) → do_fit found (L.params f) ≡ b → (r : Bool) → L.result f ≡ r → IsLike L ls (Call f k ts) (Call f k us) (passed_of L f found)
      by true e true g = rw e (rw g (t_call (all_fit ts us found (L.params f) e ks) (λ z. g)))
      by true e false g = rw e (rw g (t_call (all_fit ts us found (L.params f) e ks) (λ z. absurd (false≢true z))))
      by false e r g = rw e tt

  pub loops_alike : (h : ℕ) (ts us : Terms) (found : List Bool) → AllTwins L ls ts us found → IsLike L ls (Loop h ts) (Loop h us) (passed_of L h found)
  loops_alike h ts us found ks = by (do_fit found (L.params h)) refl (L.result h) refl
    where
      by : (b : Bool) → do_fit found (L.params h) ≡ b → (r : Bool) → L.result h ≡ r → IsLike L ls (Loop h ts) (Loop h us) (passed_of L h found)
      by true e true g = rw e (rw g (t_loop (all_fit ts us found (L.params h) e ks) (λ z. g)))
      by true e false g = rw e (rw g (t_loop (all_fit ts us found (L.params h) e ks) (λ z. absurd (false≢true z))))
      by false e r g = rw e tt

  pub calls_by : (f k : ℕ) (ts us : Terms) (u : Term) (found bs : List Bool) (m : Likeness) → u ≡ Call f k us → AllTwins L ls ts us found → bs ≡ found
      → m ≡ passed_of L f bs → IsLike L ls (Call f k ts) u m
  calls_by f k ts us u found bs m e ks g h =
      subst (λ (x : Term). IsLike L ls (Call f k ts) x m) (sym e) (subst (IsLike L ls (Call f k ts) (Call f k us)) (sym (h ∙ ap (passed_of L f) g)) (calls_alike f k ts us found ks))

  pub loops_by : (h : ℕ) (ts us : Terms) (u : Term) (found bs : List Bool) (m : Likeness) → u ≡ Loop h us → AllTwins L ls ts us found → bs ≡ found
      → m ≡ passed_of L h bs → IsLike L ls (Loop h ts) u m
  loops_by h ts us u found bs m e ks g q =
      subst (λ (x : Term). IsLike L ls (Loop h ts) x m) (sym e) (subst (IsLike L ls (Loop h ts) (Loop h us)) (sym (q ∙ ap (passed_of L h) g)) (loops_alike h ts us found ks))

  pub lets_by : (ts us : Terms) (x y u : Term) (found slots : List Bool) (m : Likeness) → u ≡ Let us y → AllTwins L ls ts us found → slots ≡ ls ++ found
      → IsLike L slots x y m → IsLike L ls (Let ts x) u m
  lets_by ts us x y u found slots m e ks f h =
      subst (λ (z : Term). IsLike L ls (Let ts x) z m) (sym e) (lets_alike ts us x y found m ks (subst (λ (l : List Bool). IsLike L l x y m) f h))

-- the same of a result
pub ok_then : {A E : Type 0} {P Q : A → Type 0} (r : Result A E) → ((x : A) → P x → Q x) → IfOk r P → IfOk r Q
ok_then (Ok x) f h = f x h
ok_then (Err e) f h = tt

pub call_by : {t : Term} {f g k l : ℕ} {ts : Terms} → t ≡ Call g l ts → f ≡ g → k ≡ l → t ≡ Call f k ts
call_by {t} {f} {g} {k} {l} {ts} e p q = e ∙ ap (λ (n : ℕ). Call n l ts) (sym p) ∙ ap (λ (n : ℕ). Call f n ts) (sym q)

pub loop_by : {t : Term} {h g : ℕ} {ts : Terms} → t ≡ Loop g ts → h ≡ g → t ≡ Loop h ts
loop_by {t} {h} {g} {ts} e p = e ∙ ap (λ (n : ℕ). Loop n ts) (sym p)

pub suffices_twins : (L : Labels) (ls : List Bool) (t u : Term) (m : Likeness) (b : Bool) → IsLike L ls t u m → suffices_for m b ≡ true → Twins L ls t u b
suffices_twins L ls t u Apart b h e = absurd (false≢true e)
suffices_twins L ls t u SameTime true h e = absurd (false≢true e)
suffices_twins L ls t u SameTime false h e = h
suffices_twins L ls t u SameWord true h e = h
suffices_twins L ls t u SameWord false h e = twins_less h

pub same_bits : (a b : Bool) → beq a b ≡ true → a ≡ b
same_bits true true e = refl
same_bits true false e = absurd (false≢true e)
same_bits false true e = absurd (false≢true e)
same_bits false false e = refl
