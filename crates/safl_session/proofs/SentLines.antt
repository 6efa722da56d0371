-- What is sent after something that was sent.
use Rattle.safl_session.proofs.Common.{Sends, SendsPart, TellsOn}
use Rattle.std.proofs.Common.{◌≡◌, ℕ, List, ◌++◌, length, take, drop, Option, Some, None, refl, sym, ap, ◌∙◌, append_assoc}
use Rattle.std.proofs.lemmas.List.{take-append-drop, take_at}

pub both_sent : (a b : List ℕ) (old mid new : Option (List ℕ)) → TellsOn (Sends a) old mid → TellsOn (Sends b) mid new → TellsOn (Sends (a ++ b)) old new
both_sent a b None mid new p q = tt
both_sent a b (Some x) None new p q = absurd p
both_sent a b (Some x) (Some y) None p q = absurd q
both_sent a b (Some x) (Some y) (Some z) p q = q ∙ ap (λ (l : List ℕ). l ++ b) p ∙ append_assoc x a b

-- a text and a part of another one are a part of both with more after them
part_of : (a b c : List ℕ) (k : ℕ) → take (length (a ++ take k b)) ((a ++ b) ++ c) ≡ a ++ take k b
part_of a b c k =
    let split : (a ++ b) ++ c ≡ (a ++ take k b) ++ (drop k b ++ c) =
    ap (λ (l : List ℕ). (a ++ l) ++ c) (sym (take-append-drop k b)) ∙ ap (λ (l : List ℕ). l ++ c) (sym (append_assoc a (take k b) (drop k b))) ∙ append_assoc (a ++ take k b) (drop k b) c in
    ap (λ (l : List ℕ). take (length (a ++ take k b)) l) split ∙ take_at (a ++ take k b) (drop k b ++ c) (length (a ++ take k b)) refl

pub part_sent : (a b c whole : List ℕ) → whole ≡ (a ++ b) ++ c → (old mid new : Option (List ℕ)) → TellsOn (Sends a) old mid → TellsOn (SendsPart b) mid new → TellsOn (SendsPart whole) old new
part_sent a b c whole e None mid new p q = tt
part_sent a b c whole e (Some x) None new p q = absurd p
part_sent a b c whole e (Some x) (Some y) None p q = absurd q
part_sent a b c whole e (Some x) (Some y) (Some z) p q = (
  length (a ++ take q.0 b),
  q.1 ∙ ap (λ (l : List ℕ). l ++ take q.0 b) p ∙ append_assoc x a (take q.0 b)
      ∙ ap (λ (l : List ℕ). x ++ l) (sym (part_of a b c q.0)) ∙ ap (λ (l : List ℕ). x ++ take (length (a ++ take q.0 b)) l) (sym e),
)
