-- The calls of a session that have their replies, and the lines of these.
use Rattle.safl_session.proofs.Common.{All, All-head, All-tail, AllReply, AreReplies, Netlist, Word}
use Rattle.std.proofs.Common.{◌≡◌, ℕ, zero, suc, ◌+◌, List, [], ◌∷◌, ◌++◌, length, take, drop, Some, slice_get, refl, sym, ap, subst, ◌∙◌, arith, append_assoc}
use Rattle.std.proofs.lemmas.List.{append-nil}
use Rattle.safl_sim.specs.declared.done.Done.{Done as Reply}
use Rattle.safl_session.specs.Transcripts.{reply_line, reply_lines}

-- ---- lists

pub split_at : {A : Type 0} (xs : List A) (i : ℕ) (x : A) → slice_get xs i ≡ Some x → take i xs ++ x ∷ drop (i + 1) xs ≡ xs
split_at [] i x e = absurd (cc)
split_at (y ∷ xs) zero x e = let s : y ≡ x = cc in ap (λ z. z ∷ xs) (sym s)
split_at (y ∷ xs) (suc i) x e =
    let k : suc i + 1 ≡ suc (i + 1) = omega arith in
    ap (λ n. y ∷ take i xs ++ x ∷ drop n (y ∷ xs)) k ∙ ap (λ l. y ∷ l) (split_at xs i x e)

pub all_at : {A : Type 0} (P : A → Type 0) (xs : List A) (i : ℕ) (x : A) → All P xs → slice_get xs i ≡ Some x → P x
all_at P [] i x all e = absurd (cc)
all_at P (y ∷ xs) zero x all e = let s : y ≡ x = cc in subst P s (All-head P y xs all)
all_at P (y ∷ xs) (suc i) x all e = all_at P xs i x (All-tail P y xs all) e

-- ---- lines

pub lines_append : (rs qs : List Reply) → reply_lines (rs ++ qs) ≡ reply_lines rs ++ reply_lines qs
lines_append [] qs = refl
lines_append (r ∷ rs) qs = ap (λ (l : List ℕ). reply_line r ++ l) (lines_append rs qs) ∙ sym (append_assoc (reply_line r) (reply_lines rs) (reply_lines qs))

pub lines_more : (rs : List Reply) (r : Reply) → reply_lines (rs ++ r ∷ []) ≡ reply_lines rs ++ reply_line r
lines_more rs r = lines_append rs (r ∷ []) ∙ ap (λ (l : List ℕ). reply_lines rs ++ l) (append-nil (reply_line r))

-- ---- replies

pub all_replies : (n : Netlist) (limit : ℕ) (state last : ℕ → ℕ) (calls : List (List Word)) (rs : List Reply) → AllReply n limit state calls rs last → AreReplies n limit state calls rs
all_replies n limit state last [] [] a = tt
all_replies n limit state last [] (r ∷ rs) a = absurd a
all_replies n limit state last (args ∷ calls) [] a = absurd a
all_replies n limit state last (args ∷ calls) (r ∷ rs) a = (a.0, a.1, all_replies n limit a.0 last calls rs a.2)

pub all_long : (n : Netlist) (limit : ℕ) (state last : ℕ → ℕ) (calls : List (List Word)) (rs : List Reply) → AllReply n limit state calls rs last → length rs ≡ length calls
all_long n limit state last [] [] a = refl
all_long n limit state last [] (r ∷ rs) a = absurd a
all_long n limit state last (args ∷ calls) [] a = absurd a
all_long n limit state last (args ∷ calls) (r ∷ rs) a = ap suc (all_long n limit a.0 last calls rs a.2)
