-- What is written one after the other.
use Rattle.safl_tree.proofs.Common.{Labelled, Tree, arms_of, drop_read}
use Rattle.std.proofs.Common.{◌≡◌, ℕ, ◌+◌, ◌-◌, ◌<◌, ◌≤◌, List, [], ◌∷◌, ◌++◌, length, take, drop, get_or, refl, sym, ap, subst, ◌∙◌, append_assoc, Result, Ok, Err, OnOk, arith}
use Rattle.std.proofs.lemmas.List.{append-nil, drop_all, take_all}
use Rattle.safl_word.specs.declared.token.Key.TheVariants as keys
use Rattle.safl_word.specs.declared.token.Sym.TheVariants as syms
use Rattle.safl_tree.specs.Printed
use Rattle.safl_tree.specs.Printed.{PrintedToken, spaced, separated, words, arm_words, labelled_words, Writes}

pub spaced_append : (u v : List PrintedToken) → spaced (u ++ v) ≡ spaced u ++ spaced v
spaced_append [] v = refl
spaced_append (x ∷ u) v = ap (λ (l : List ℕ). 32 ∷ (x.text ++ l)) (spaced_append u v) ∙ ap (λ (l : List ℕ). 32 ∷ l) (sym (append_assoc x.text (spaced u) (spaced v)))

pub writes_then : (a b c : List ℕ) (u v : List PrintedToken) → Writes a b u → Writes b c v → Writes a c (u ++ v)
writes_then a b c u v h i = i ∙ ap (λ (l : List ℕ). l ++ spaced v) h ∙ append_assoc a (spaced u) (spaced v) ∙ ap (λ (l : List ℕ). a ++ l) (sym (spaced_append u v))

-- the last step may fail
pub ends_with : {A E : Type 0} (r : Result A E) (a b c : List ℕ) (u v : List PrintedToken) → Writes a b u → OnOk r (Writes b c v) → OnOk r (Writes a c (u ++ v))
ends_with (Ok x) a b c u v h i = writes_then a b c u v h i
ends_with (Err e) a b c u v h i = tt

-- words after a separator each
abbrev pub behind : PrintedToken → List (List PrintedToken) → List PrintedToken
behind s [] = []
behind s (x ∷ xs) = s ∷ (x ++ behind s xs)

pub separated_behind : (s : PrintedToken) (x : List PrintedToken) (xs : List (List PrintedToken)) → separated s (x ∷ xs) ≡ x ++ behind s xs
separated_behind s x [] = sym (append-nil x)
separated_behind s x (y ∷ xs) = ap (λ (l : List PrintedToken). x ++ (s ∷ l)) (separated_behind s y xs)

-- what is left to write is written at the end
abbrev pub Leaves : List ℕ → List PrintedToken → List ℕ → List PrintedToken → Type 0
Leaves b left a all = b ++ spaced left ≡ a ++ spaced all

pub leaves_less : (a b c : List ℕ) (u v all : List PrintedToken) → Leaves b (u ++ v) a all → Writes b c u → Leaves c v a all
leaves_less a b c u v all h i = ap (λ (l : List ℕ). l ++ spaced v) i ∙ append_assoc b (spaced u) (spaced v) ∙ ap (λ (l : List ℕ). b ++ l) (sym (spaced_append u v)) ∙ h

pub leaves_none : (a b : List ℕ) (all : List PrintedToken) → Leaves b [] a all → Writes a b all
leaves_none a b all h = sym (append-nil b) ∙ h

pub chain_3 : {A E : Type 0} (r : Result A E) (a b1 b2 c : List ℕ) (u1 u2 u3 : List PrintedToken) → Writes a b1 u1 → Writes b1 b2 u2 → OnOk r (Writes b2 c u3) → OnOk r (Writes a c (u1 ++ (u2 ++ u3)))
chain_3 r a b1 b2 c u1 u2 u3 h1 h2 h3 = ends_with r a b1 c u1 (u2 ++ u3) h1 (ends_with r b1 b2 c u2 u3 h2 h3)

pub chain_4 : {A E : Type 0} (r : Result A E) (a b1 b2 b3 c : List ℕ) (u1 u2 u3 u4 : List PrintedToken) → Writes a b1 u1 → Writes b1 b2 u2 → Writes b2 b3 u3 →
    OnOk r (Writes b3 c u4) → OnOk r (Writes a c (u1 ++ (u2 ++ (u3 ++ u4))))
chain_4 r a b1 b2 b3 c u1 u2 u3 u4 h1 h2 h3 h4 = ends_with r a b1 c u1 (u2 ++ (u3 ++ u4)) h1 (chain_3 r b1 b2 b3 c u2 u3 u4 h2 h3 h4)

pub chain_5 : {A E : Type 0} (r : Result A E) (a b1 b2 b3 b4 c : List ℕ) (u1 u2 u3 u4 u5 : List PrintedToken) → Writes a b1 u1 → Writes b1 b2 u2 → Writes b2
    b3 u3 → Writes b3 b4 u4 → OnOk r (Writes b4 c u5) → OnOk r (Writes a c (u1 ++ (u2 ++ (u3 ++ (u4 ++ u5)))))
chain_5 r a b1 b2 b3 b4 c u1 u2 u3 u4 u5 h1 h2 h3 h4 h5 = ends_with r a b1 c u1 (u2 ++ (u3 ++ (u4 ++ u5))) h1 (chain_4 r b1 b2 b3 b4 c u2 u3 u4 u5 h2 h3 h4 h5)

pub chain_6 : {A E : Type 0} (r : Result A E) (a b1 b2 b3 b4 b5 c : List ℕ) (u1 u2 u3 u4 u5 u6 : List PrintedToken) → Writes a b1 u1 → Writes b1 b2 u2 →
    Writes b2 b3 u3 → Writes b3 b4 u4 → Writes b4 b5 u5 → OnOk r (Writes b5 c u6) → OnOk r (Writes a c (u1 ++ (u2 ++ (u3 ++ (u4 ++ (u5 ++ u6))))))
chain_6 r a b1 b2 b3 b4 b5 c u1 u2 u3 u4 u5 u6 h1 h2 h3 h4 h5 h6 = ends_with r a b1 c u1 (u2 ++ (u3 ++ (u4 ++ (u5 ++ u6)))) h1 (chain_5 r b1 b2 b3 b4 b5 c u2 u3 u4 u5 u6 h2 h3 h4 h5 h6)

pub chain_7 : {A E : Type 0} (r : Result A E) (a b1 b2 b3 b4 b5 b6 c : List ℕ) (u1 u2 u3 u4 u5 u6 u7 : List PrintedToken) → Writes a b1 u1 → Writes b1 b2 u2 →
    Writes b2 b3 u3 → Writes b3 b4 u4 → Writes b4 b5 u5 → Writes b5 b6 u6 → OnOk r (Writes b6 c u7) → OnOk r
    (Writes a c (u1 ++ (u2 ++ (u3 ++ (u4 ++ (u5 ++ (u6 ++ u7)))))))
chain_7 r a b1 b2 b3 b4 b5 b6 c u1 u2 u3 u4 u5 u6 u7 h1 h2 h3 h4 h5 h6 h7 = ends_with r a b1 c u1 (u2 ++ (u3 ++ (u4 ++ (u5 ++ (u6 ++ u7))))) h1
    (chain_6 r b1 b2 b3 b4 b5 b6 c u2 u3 u4 u5 u6 u7 h2 h3 h4 h5 h6 h7)

pub chain_8 : {A E : Type 0} (r : Result A E) (a b1 b2 b3 b4 b5 b6 b7 c : List ℕ) (u1 u2 u3 u4 u5 u6 u7 u8 : List PrintedToken) → Writes a b1 u1 → Writes b1
    b2 u2 → Writes b2 b3 u3 → Writes b3 b4 u4 → Writes b4 b5 u5 → Writes b5 b6 u6 → Writes b6 b7 u7 → OnOk r (Writes b7 c u8) → OnOk r
    (Writes a c (u1 ++ (u2 ++ (u3 ++ (u4 ++ (u5 ++ (u6 ++ (u7 ++ u8))))))))
chain_8 r a b1 b2 b3 b4 b5 b6 b7 c u1 u2 u3 u4 u5 u6 u7 u8 h1 h2 h3 h4 h5 h6 h7 h8 = ends_with r a b1 c u1
    (u2 ++ (u3 ++ (u4 ++ (u5 ++ (u6 ++ (u7 ++ u8)))))) h1 (chain_7 r b1 b2 b3 b4 b5 b6 b7 c u2 u3 u4 u5 u6 u7 u8 h2 h3 h4 h5 h6 h7 h8)

-- ---- items after a separator

module _ {E : Type 0} (item : E → List PrintedToken) (f : List E → List (List PrintedToken)) (none : f [] ≡ []) (more : (x : E) (xs : List E) → f (x ∷ xs) ≡ item x ∷ f xs) where
  pub items_step : (s : PrintedToken) (xs : List E) (i : ℕ) (x : E) → i < length xs → x ≡ get_or xs i x → (a b c d : List ℕ) (all : List PrintedToken) → Leaves b
      (behind s (f (drop i xs))) a all → Writes b c (s ∷ []) → Writes c d (item x) → Leaves d (behind s (f (drop (i + 1) xs))) a all
  items_step s xs i x lt e a b c d all h j k =
      let rest = behind s (f (drop (i + 1) xs)) in
      let left : behind s (f (drop i xs)) ≡ s ∷ (item x ++ rest) = ap (λ (l : List E). behind s (f l)) (drop_read xs i x lt e) ∙ ap (behind s) (more x (drop (i + 1) xs)) in
      leaves_less a c d (item x) rest all (leaves_less a b c (s ∷ []) (item x ++ rest) all (subst (λ (l : List PrintedToken). Leaves b l a all) left h) j) k

  pub items_end : (s : PrintedToken) (xs : List E) (i : ℕ) → length xs ≤ i → (a b c : List ℕ) (first : List PrintedToken) → Leaves c (behind s (f (drop i xs))) b
      (behind s (f xs)) → Writes a b first → Writes a c (separated s (first ∷ f xs))
  items_end s xs i ge a b c first h j =
      let left : behind s (f (drop i xs)) ≡ [] = ap (λ (l : List E). behind s (f l)) (drop_all i xs ge) ∙ ap (behind s) none in
      subst (Writes a c) (sym (separated_behind s first (f xs)))
      (writes_then a b c first (behind s (f xs)) j (leaves_none b c (behind s (f xs)) (subst (λ (l : List PrintedToken). Leaves c l b (behind s (f xs))) left h)))

-- a list by its first element
pub by_first : {E : Type 0} (xs : List E) (x : E) → 1 ≤ length xs → x ≡ get_or xs 0 x → xs ≡ x ∷ take (length xs - 1) (drop 1 xs)
by_first [] x le e = absurd (omega arith)
by_first (y ∷ xs) x le e = let g : y ≡ x = sym e in ap (λ (z : _). z ∷ xs) g ∙ ap (λ (l : List _). x ∷ l) (sym (take_all (length (y ∷ xs) - 1) xs (omega arith)))

-- ---- a case

pub arms_split : (arms : List Labelled) (t : Tree) → arm_words (arms_of arms t) ≡ labelled_words arms ++ (Printed.key keys.Default ∷ (Printed.sym syms.Arrow ∷ words t))
arms_split [] t = refl
arms_split (a ∷ arms) t =
    let rest = Printed.key keys.Default ∷ (Printed.sym syms.Arrow ∷ words t) in
    ap (λ (l : List PrintedToken). words a.label ++ (Printed.sym syms.Arrow ∷ (words a.value ++ (Printed.sym syms.Comma ∷ l)))) (arms_split arms t)
    ∙ ap (λ (l : List PrintedToken). words a.label ++ (Printed.sym syms.Arrow ∷ l)) (sym (append_assoc (words a.value) (Printed.sym syms.Comma ∷ labelled_words arms) rest))
    ∙ sym (append_assoc (words a.label) (Printed.sym syms.Arrow ∷ (words a.value ++ (Printed.sym syms.Comma ∷ labelled_words arms))) rest)

pub case_split : (e t : Tree) (arms : List Labelled) → words e ++
    (Printed.sym syms.OpenBrace ∷ (labelled_words arms ++ (Printed.key keys.Default ∷
    (Printed.sym syms.Arrow ∷ (words t ++ (Printed.sym syms.CloseBrace ∷ [])))))) ≡ words e ++
    (Printed.sym syms.OpenBrace ∷ (arm_words (arms_of arms t) ++ (Printed.sym syms.CloseBrace ∷ [])))
case_split e t arms = ap (λ (l : List PrintedToken). words e ++ (Printed.sym syms.OpenBrace ∷ l))
    (sym (append_assoc (labelled_words arms) (Printed.key keys.Default ∷ (Printed.sym syms.Arrow ∷ words t)) (Printed.sym syms.CloseBrace ∷ [])) ∙ ap
    (λ (l : List PrintedToken). l ++ (Printed.sym syms.CloseBrace ∷ [])) (sym (arms_split arms t)))
