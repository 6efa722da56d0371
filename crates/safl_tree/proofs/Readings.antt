-- Tokens of given words are read as a value that shows a given one.
use Rattle.safl_tree.proofs.Common.{Key, Sym, apart_within, goes_on, stops_here, subset_within, width_max}
use Rattle.std.proofs.Common.{◌≡◌, ℕ, ◌<◌, Bool, true, false, cond, List, [], ◌∷◌, ◌++◌, map, length, Option, Some, None, Ok, Err, refl, sym, ap, subst, ◌∙◌, append_assoc, lt-ltb}
use Rattle.safl_grammar.specs.Sets.{Set, Every, Only, within, subset, apart}
use Rattle.safl_grammar.specs.Syntax.{Rule, Range}
use Rattle.safl_grammar.specs.Reading.{Read, Reading, ◌>>=◌, head_of, taken, checked, read_nothing, read_token, read_limited, read_follows, read_either, read_many}
use Rattle.safl_grammar.proofs.Small.{Small, small_nothing, eats_token, small_follows, eats_follows}
use Rattle.safl_tree.specs.Terminals.{Terminal, NameAt, NumberAt}
use Rattle.safl_tree.specs.Codes.{code, code_of, comes, word_code, symbol_code, classed, marked, name, number, number_in, sized, width_in, value_in}
use Rattle.std.proofs.lemmas.List.{append-nil, map-append}
use Rattle.std.specs.Prelude.{nat_lt}
use Rattle.safl_word.specs.declared.token.Sym.TheVariants as syms
use Rattle.safl_tree.specs.Reader.{read_word, read_symbol, read_width, read_index, comma}
use Rattle.safl_tree.specs.Tree.{Sized}
use Rattle.safl_tree.specs.Grammar.{is_written_width, fits_width, fits_sized, fits_index}
use Rattle.safl_word.specs.declared.token.Key.TheVariants as keys
use Rattle.safl_tree.specs.Printed
use Rattle.safl_tree.specs.Printed.{PrintedToken, separated}

abbrev pub word_of : Terminal → PrintedToken
word_of t = record { kind = t.kind; text = t.bytes }

abbrev pub words_in : List Terminal → List PrintedToken
words_in w = map word_of w

-- the code that follows words: their first one's, or else one that may follow them all
abbrev pub fits_next : Set → List PrintedToken → Set → Bool
fits_next Every ks G = true
fits_next (Only xs) [] G = subset G (Only xs)
fits_next (Only xs) (k ∷ ks) G = within (Only xs) (code_of k.kind)

-- where one of F follows, tokens of these words are read as a value that shows v, and no more is read
pub record Reads {A B : Type 0} (p : Reading Terminal A) (ks : List PrintedToken) (F : Set) (g : A → B) (v : B) : Type 0 where
  pub reads : (w r : List Terminal) → words_in w ≡ ks → within F (code (head_of r)) ≡ true → (x : A) × (g x ≡ v) × (p (w ++ r) ≡ Ok (x, r))

-- ---- cutting

pub record First (w : List Terminal) (k : PrintedToken) (ks : List PrintedToken) : Type 0 where
  pub token : Terminal
  pub back : List Terminal
  pub is : w ≡ token ∷ back
  pub word : word_of token ≡ k
  pub rest : words_in back ≡ ks

pub first_of : (w : List Terminal) (k : PrintedToken) (ks : List PrintedToken) → words_in w ≡ k ∷ ks → First w k ks
first_of [] k ks e = absurd cc
first_of (t ∷ v) k ks e = record { token = t; back = v; is = refl; word = cc; rest = cc }

pub record Cut (w : List Terminal) (xs ys : List PrintedToken) : Type 0 where
  pub front : List Terminal
  pub back : List Terminal
  pub is : w ≡ front ++ back
  pub first : words_in front ≡ xs
  pub second : words_in back ≡ ys

pub cut : (w : List Terminal) (xs ys : List PrintedToken) → words_in w ≡ xs ++ ys → Cut w xs ys
cut w [] ys e = record { front = []; back = w; is = refl; first = refl; second = e }
cut [] (x ∷ xs) ys e = absurd cc
cut (t ∷ w) (x ∷ xs) ys e =
    let r : words_in w ≡ xs ++ ys = cc in
    let k : word_of t ≡ x = cc in
    let c = cut w xs ys r in
    record {
      front = t ∷ c.front;
      back = c.back;
      is = ap (λ (l : List Terminal). t ∷ l) c.is;
      first = ap (λ (h : PrintedToken). h ∷ words_in c.front) k ∙ ap
          (λ (l : List PrintedToken). x ∷ l) c.first;
      second = c.second;
    }

pub nil_of : (w : List Terminal) → words_in w ≡ [] → w ≡ []
nil_of [] e = refl
nil_of (t ∷ w) e = absurd cc

pub kind_is : (F : Set) (t : Terminal) (k : PrintedToken) (b : Bool) → word_of t ≡ k → within F (code_of k.kind) ≡ b → within F (code_of t.kind) ≡ b
kind_is F t k b e h = ap (λ (x : PrintedToken). within F (code_of x.kind)) e ∙ h

-- what follows words that are followed by others
pub next_within : (F : Set) (js : List PrintedToken) (G : Set) (v r : List Terminal) → fits_next F js G ≡ true → words_in v ≡ js → within G (code (head_of r))
    ≡ true → within F (code (head_of (v ++ r))) ≡ true
next_within Every js G v r n e h = refl
next_within (Only xs) [] G v r n e h = subst (λ (l : List Terminal). within (Only xs) (code (head_of (l ++ r))) ≡ true) (sym (nil_of v e)) (subset_within G (Only xs) (code (head_of r)) n h)
next_within (Only xs) (j ∷ js) G v r n e h =
    let f = first_of v j js e in
    subst (λ (l : List Terminal). within (Only xs) (code (head_of (l ++ r))) ≡ true) (sym f.is) (kind_is (Only xs) f.token j true f.word n)

-- ---- parts

pub reads_nothing : {A B : Type 0} (F : Set) (g : A → B) (x : A) (v : B) → g x ≡ v → Reads (read_nothing x) [] F g v
reads_nothing F g x v e = record { reads = λ w r k h. (x, e, ap (λ (l : List Terminal). read_nothing x (l ++ r)) (nil_of w k)) }

taken_some : {A : Type 0} (o : Option A) (x : A) (rest all : List Terminal) → o ≡ Some x → taken o rest all ≡ Ok (x, rest)
taken_some o x rest all e = ap (λ (y : Option _). taken y rest all) e

pub reads_token : {A B : Type 0} (F : Set) (class : Terminal → Option A) (k : PrintedToken) (g : A → B) (v : B) →
    ((t : Terminal) → word_of t ≡ k → (x : A) × (g x ≡ v) × (class t ≡ Some x)) → Reads (read_token class) (k ∷ []) F g v
reads_token F class k g v look = record {
  reads = λ w r e h.
      let f = first_of w k [] e in
      let x = look f.token f.word in
      (x.0, x.1, ap (λ (l : List Terminal). read_token class (l ++ r)) (f.is ∙ ap (λ (l : List Terminal). f.token ∷ l) (nil_of f.back f.rest)) ∙ taken_some (class f.token) x.0 r (f.token ∷ r) x.2);
}

pub reads_limited : {A B : Type 0} (F : Set) (rule : Rule) (fits : A → Bool) (class : Terminal → Option A) (k : PrintedToken) (g : A → B) (v : B) →
    ((t : Terminal) → word_of t ≡ k → (x : A) × (g x ≡ v) × (class t ≡ Some x) × (fits x ≡ true)) → Reads (read_limited rule fits class) (k ∷ []) F g v
reads_limited F rule fits class k g v look = record {
  reads = λ w r e h.
      let f = first_of w k [] e in
      let x = look f.token f.word in (
        x.0,
        x.1,
        ap (λ (l : List Terminal). read_limited rule fits class (l ++ r)) (f.is ∙ ap (λ (l : List Terminal). f.token ∷ l) (nil_of f.back f.rest))
            ∙ ap (λ (y : Read Terminal _). y >>= checked rule fits (f.token ∷ r)) (taken_some (class f.token) x.0 r (f.token ∷ r) x.2)
            ∙ ap (λ (b : Bool). cond b (Ok (x.0, r)) (Err (rule, f.token ∷ r))) x.3,
      );
}

pub reads_then : {A B C D : Type 0} {p : Reading Terminal A} {q : A → Reading Terminal C} {ks js : List PrintedToken} {F G : Set} {g : A → B} {v : B}
    {h : C → D} {y : D} → Reads p ks F g v → ((x : A) → g x ≡ v → Reads (q x) js G h y) → fits_next F js G ≡ true → Reads (read_follows p q) (ks ++ js) G h y
reads_then {p = p} {q = q} {ks = ks} {js = js} {F = F} {G = G} a b n = record {
  reads = λ w r e h.
      let c = cut w ks js e in
      let x = a.reads c.front (c.back ++ r) c.first (next_within F js G c.back r n c.second h) in
      let z = (b x.0 x.1).reads c.back r c.second h in
      (z.0, z.1, ap (read_follows p q) (ap (λ (l : List Terminal). l ++ r) c.is ∙ append_assoc c.front c.back r) ∙ ap (λ (i : Read Terminal _). i >>= λ x. q x.0 x.1) x.2 ∙ z.2);
}

-- the test holds of the first word
pub reads_first : {A B : Type 0} (codes : List ℕ) (q : Reading Terminal A) {p : Reading Terminal A} {k : PrintedToken} {ks : List PrintedToken} {F : Set} {g : A → B}
    {v : B} → Reads p (k ∷ ks) F g v → within (Only codes) (code_of k.kind) ≡ true → Reads (read_either (comes codes) p q) (k ∷ ks) F g v
reads_first codes q {p = p} {k = k} {ks = ks} a n = record {
  reads = λ w r e h.
      let f = first_of w k ks e in
      let x = a.reads w r e h in (
        x.0,
        x.1,
        ap (λ (l : List Terminal). cond (comes codes (head_of (l ++ r))) (p (w ++ r)) (q (w ++ r))) f.is ∙ ap
            (λ (b : Bool). cond b (p (w ++ r)) (q (w ++ r))) (kind_is (Only codes) f.token k true f.word n) ∙ x.2,
      );
}

-- it doesn't: the first word is none of these
pub data Avoids (codes : List ℕ) : List PrintedToken → Type 0 where
  avoids : (k : PrintedToken) (ks : List PrintedToken) → within (Only codes) (code_of k.kind) ≡ false → Avoids codes (k ∷ ks)

pub reads_second : {A B : Type 0} (codes : List ℕ) (p : Reading Terminal A) {q : Reading Terminal A} {ks : List PrintedToken} {F : Set} {g : A → B} {v : B} →
    Reads q ks F g v → Avoids codes ks → Reads (read_either (comes codes) p q) ks F g v
reads_second codes p {q = q} a (avoids k ks n) = record {
  reads = λ w r e h.
      let f = first_of w k ks e in
      let x = a.reads w r e h in (
        x.0,
        x.1,
        ap (λ (l : List Terminal). cond (comes codes (head_of (l ++ r))) (p (w ++ r)) (q (w ++ r))) f.is ∙ ap
            (λ (b : Bool). cond b (p (w ++ r)) (q (w ++ r))) (kind_is (Only codes) f.token k false f.word n) ∙ x.2,
      );
}

-- there is no word, and none of these follows
pub reads_none : {A B : Type 0} (codes : List ℕ) (p : Reading Terminal A) {q : Reading Terminal A} {F : Set} {g : A → B} {v : B} → Reads q [] F g v →
    apart F (Only codes) ≡ true → Reads (read_either (comes codes) p q) [] F g v
reads_none codes p {q = q} {F = F} a n = record {
  reads = λ w r e h.
      let x = a.reads w r e h in (
        x.0,
        x.1,
        ap (λ (l : List Terminal). cond (comes codes (head_of (l ++ r))) (p (w ++ r)) (q (w ++ r))) (nil_of w e) ∙ ap
            (λ (b : Bool). cond b (p (w ++ r)) (q (w ++ r))) (apart_within F (Only codes) (code (head_of r)) n h) ∙ x.2,
      );
}

pub reads_narrowed : {A B : Type 0} {p : Reading Terminal A} {ks : List PrintedToken} (F : Set) {G : Set} {g : A → B} {v : B} → Reads p ks F g v → subset G F ≡ true → Reads p ks G g v
reads_narrowed F {G = G} a n = record { reads = λ w r e h. a.reads w r e (subset_within G F (code (head_of r)) n h) }

-- ---- lists

-- each item's words are read as its value
abbrev pub AllRead : {A B : Type 0} → Reading Terminal A → Set → (A → B) → List (List PrintedToken) → List B → Type 0
AllRead p F g [] [] = Unit {0}
AllRead p F g [] (v ∷ vs) = ⊥
AllRead p F g (x ∷ xs) [] = ⊥
AllRead p F g (x ∷ xs) (v ∷ vs) = Reads p x F g v × AllRead p F g xs vs

-- one more item, after a comma
abbrev pub one_more : {A : Type 0} → Reading Terminal A → List A → Reading Terminal (List A)
one_more p xs = read_follows (read_symbol syms.Comma) (λ sep. read_follows p (λ x. read_nothing (xs ++ x ∷ [])))

abbrev pub commas : List (List PrintedToken) → List PrintedToken
commas [] = []
commas (x ∷ xs) = Printed.sym syms.Comma ∷ (x ++ commas xs)

pub separated_commas : (x : List PrintedToken) (xs : List (List PrintedToken)) → separated (Printed.sym syms.Comma) (x ∷ xs) ≡ x ++ commas xs
separated_commas x [] = sym (append-nil x)
separated_commas x (y ∷ xs) = ap (λ (l : List PrintedToken). x ++ (Printed.sym syms.Comma ∷ l)) (separated_commas y xs)

-- a value made of what was read
pub reads_give : {A B C D : Type 0} {p : Reading Terminal A} {ks : List PrintedToken} {F : Set} {g : A → B} {v : B} (f : A → C) (h : C → D) (y : D) → Reads p
    ks F g v → ((x : A) → g x ≡ v → h (f x) ≡ y) → Reads (read_follows p (λ x. read_nothing (f x))) ks F h y
reads_give f h y a same = record {
  reads = λ w r e k.
      let x = a.reads w r e k in
      (f x.0, same x.0 x.1, ap (λ (i : Read Terminal _). i >>= λ x. Ok (f x.0, x.1)) x.2);
}

-- ---- tokens

key_self : (k : Key) → within (Only (word_code k ∷ [])) (word_code k) ≡ true
key_self keys.Fun = refl
key_self _ = refl

symbol_self : (s : Sym) → within (Only (symbol_code s ∷ [])) (symbol_code s) ≡ true
symbol_self syms.OpenParen = refl
symbol_self _ = refl

abbrev pub any : ℕ → Unit {0}
any p = tt

pub classed_some : {A : Type 0} (F : Set) (value : Terminal → A) (t : Terminal) (k : PrintedToken) → word_of t ≡ k → within F (code_of k.kind) ≡ true → classed F value t ≡ Some (value t)
classed_some F value t k e h = ap (λ (b : Bool). cond b (Some (value t)) None) (kind_is F t k true e h)

pub reads_key : (k : Key) → Reads (read_word k) (Printed.key k ∷ []) Every any tt
reads_key k = reads_token Every (marked (word_code k)) (Printed.key k) any tt (λ t e. (t.place, refl, classed_some (Only (word_code k ∷ [])) (λ t. t.place) t (Printed.key k) e (key_self k)))

pub reads_symbol : (s : Sym) → Reads (read_symbol s) (Printed.sym s ∷ []) Every any tt
reads_symbol s = reads_token Every (marked (symbol_code s)) (Printed.sym s) any tt (λ t e. (t.place, refl, classed_some (Only (symbol_code s ∷ [])) (λ t. t.place) t (Printed.sym s) e (symbol_self s)))

abbrev pub name_text : NameAt → List ℕ
name_text n = n.name

abbrev pub number_value : NumberAt → ℕ
number_value n = n.value

pub reads_name : (x : List ℕ) → Reads (read_token name) (Printed.name x ∷ []) Every name_text x
reads_name x = reads_token Every name (Printed.name x) name_text x
    (λ t e. (
      record { place = t.place; name = t.bytes },
      ap (λ (k : PrintedToken). k.text) e,
      classed_some (Only (1 ∷ []))
          (λ t. record { place = t.place; name = t.bytes }) t (Printed.name x) e refl,
    ))

number_is : (n : ℕ) (t : Terminal) → word_of t ≡ Printed.number_word n → (y : NumberAt) × (y.value ≡ n) × (number t ≡ Some y)
number_is n t e = (
  record { place = t.place; value = number_in t.kind },
  ap (λ (k : PrintedToken). number_in k.kind) e,
  classed_some (Only (2 ∷ []))
      (λ t. record { place = t.place; value = number_in t.kind }) t (Printed.number_word n) e refl,
)

pub reads_number : (n : ℕ) → Reads (read_token number) (Printed.number_word n ∷ []) Every number_value n
reads_number n = reads_token Every number (Printed.number_word n) number_value n (number_is n)

pub reads_width : (n : ℕ) → is_written_width n ≡ true → Reads read_width (Printed.number_word n ∷ []) Every number_value n
reads_width n h = reads_limited Every Range fits_width number (Printed.number_word n) number_value n (λ t e. let y = number_is n t e in (y.0, y.1, y.2, ap is_written_width y.1 ∙ h))

pub reads_index : (n : ℕ) → n < width_max → Reads read_index (Printed.number_word n ∷ []) Every number_value n
reads_index n h = reads_limited Every Range fits_index number (Printed.number_word n) number_value n
    (λ t e. let y = number_is n t e in (y.0, y.1, y.2, ap (λ (x : ℕ). nat_lt x width_max) y.1 ∙ lt-ltb n width_max h))

pub reads_sized : (w n : ℕ) → is_written_width w ≡ true → Reads (read_limited Range fits_sized sized) (Printed.sized w n ∷ []) Every (λ s. Sized 0 s.width s.value) (Sized 0 w n)
reads_sized w n h = reads_limited Every Range fits_sized sized (Printed.sized w n) (λ s. Sized 0 s.width s.value) (Sized 0 w n) (λ t e. (
  record { place = t.place; width = width_in t.kind; value = value_in t.kind },
  ap (λ (k : PrintedToken). Sized 0 (width_in k.kind) (value_in k.kind)) e,
  classed_some (Only (3 ∷ [])) (λ t. record { place = t.place; width = width_in t.kind; value = value_in t.kind }) t (Printed.sized w n) e refl,
  ap (λ (k : PrintedToken). is_written_width (width_in k.kind)) e ∙ h,
))

-- ---- items after commas

one_eats : {A : Type 0} (p : Reading Terminal A) → Small p → (xs : List A) (w r : List Terminal) (x : List A) → one_more p xs w ≡ Ok (x, r) → length r < length w
one_eats p h xs = (eats_follows (eats_token (marked (symbol_code syms.Comma))) (λ sep. small_follows h (λ x. small_nothing (xs ++ x ∷ [])))).left

module _ {A B : Type 0} (p : Reading Terminal A) (small_p : Small p) (fs : List ℕ) (G : Set) (g : A → B)
    (comma_fits : within (Only fs) (symbol_code syms.Comma) ≡ true) (end_fits : subset G (Only fs) ≡ true) (end_apart : apart G (Only comma) ≡ true) where
  one_reads : (xs : List A) (x : List PrintedToken) (v : B) → Reads p x (Only fs) g v → Reads (one_more p xs) (Printed.sym syms.Comma ∷ x) (Only fs) (map g) (map g xs ++ v ∷ [])
  one_reads xs x v a = reads_then (reads_symbol syms.Comma) (λ sep u. reads_give (λ y. xs ++ y ∷ []) (map g) (map g xs ++ v ∷ []) a
      (λ y e. map-append g xs (y ∷ []) ∙ ap (λ (z : B). map g xs ++ z ∷ []) e)) refl

  more_fits : (xs : List (List PrintedToken)) → fits_next (Only fs) (commas xs) G ≡ true
  more_fits [] = end_fits
  more_fits (x ∷ xs) = comma_fits

  pub items_read : (xs : List (List PrintedToken)) (vs : List B) → AllRead p (Only fs) g xs vs → (so_far : List A) → Reads
      (read_many (comes comma) (one_more p) so_far) (commas xs) G (map g) (map g so_far ++ vs)
  items_read [] [] a so_far = record {
    reads = λ w r e h. (
      so_far,
      sym (append-nil (map g so_far)),
      ap (λ (l : List Terminal). read_many (comes comma) (one_more p) so_far (l ++ r))
          (nil_of w e) ∙ stops_here (comes comma) (one_more p) (one_eats p small_p) so_far r (read_many (comes comma) (one_more p) so_far r) refl
          (apart_within G (Only comma) (code (head_of r)) end_apart h),
    );
  }
  items_read [] (v ∷ vs) a so_far = absurd a
  items_read (x ∷ xs) [] a so_far = absurd a
  items_read (x ∷ xs) (v ∷ vs) a so_far = record {
    reads = λ w r e h.
        let c = cut w (Printed.sym syms.Comma ∷ x) (commas xs) e in
        let f = first_of c.front (Printed.sym syms.Comma) x c.first in
        let one = (one_reads so_far x v a.0).reads c.front (c.back ++ r) c.first (next_within (Only fs) (commas xs) G c.back r (more_fits xs) c.second h) in
        let rest = (items_read xs vs a.1 one.0).reads c.back r c.second h in
        let is : w ++ r ≡ c.front ++ (c.back ++ r) = ap (λ (l : List Terminal). l ++ r) c.is ∙ append_assoc c.front c.back r in
        let test : comes comma (head_of (w ++ r)) ≡ true = ap (λ (l : List Terminal). comes comma (head_of l))
        (is ∙ ap (λ (l : List Terminal). l ++ (c.back ++ r)) f.is) ∙ kind_is (Only comma) f.token (Printed.sym syms.Comma) true f.word refl in (
          rest.0,
          rest.1 ∙ ap (λ (l : List B). l ++ vs) one.1 ∙ append_assoc (map g so_far) (v ∷ []) vs,
          sym (goes_on (comes comma) (one_more p) (one_eats p small_p) so_far (w ++ r) (read_many (comes comma) (one_more p) so_far (w ++ r)) refl
              one.0 (c.back ++ r) test (ap (one_more p so_far) is ∙ one.2)) ∙ rest.2,
        );
  }

  -- one item and those after it
  pub list_reads : (x : List PrintedToken) (v : B) (xs : List (List PrintedToken)) (vs : List B) → Reads p x (Only fs) g v → AllRead p (Only fs) g xs vs → Reads
      (read_follows p (λ y. read_many (comes comma) (one_more p) (y ∷ []))) (separated (Printed.sym syms.Comma) (x ∷ xs)) G (map g) (v ∷ vs)
  list_reads x v xs vs a b = subst (λ (l : List PrintedToken). Reads (read_follows p (λ y. read_many (comes comma) (one_more p) (y ∷ []))) l G (map g)
      (v ∷ vs)) (sym (separated_commas x xs)) (reads_then a (λ y e. subst
      (λ (z : B). Reads (read_many (comes comma) (one_more p) (y ∷ [])) (commas xs) G (map g) (z ∷ vs)) e (items_read xs vs b (y ∷ []))) (more_fits xs))
