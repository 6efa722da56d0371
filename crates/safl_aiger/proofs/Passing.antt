-- Sections one after another.
use Rattle.safl_aiger.proofs.Common.{AigRule, LineKind, Lit, text_lines}
use Rattle.std.proofs.Common.{subst, ◌≡◌, ℕ, zero, suc, ◌+◌, ◌-◌, ◌*◌, ◌<◌, List, [], ◌∷◌, ◌++◌, length, drop, replicate, refl, sym, ap, ◌∙◌, arith, append_assoc, length-append}
use Rattle.std.proofs.lemmas.List.{map_push, replicate-append-replicate}
use Rattle.safl_aiger.specs.declared.reading.LineKind.TheVariants.{Output}
use Rattle.safl_aiger.specs.Reads.{AreGood, BreaksLine, kinds_from, own_numbers, latch_numbers, output_numbers, and_numbers}
use Rattle.safl_aiger.specs.declared.sections.SectionErr.{SectionErr}
use Rattle.safl_aiger.specs.declared.sections.SectionErr.TheVariants.{Stopped, NoMemory}
use Rattle.safl_aiger.specs.Sections.{Passes, Stops, Fails, Later}

pub good-append : (most : ℕ) (ws vs : List LineKind) (ls ms : List (List ℕ)) (nss mss : List (List ℕ)) → AreGood most ws ls nss → AreGood most vs ms
    mss → AreGood most (ws ++ vs) (ls ++ ms) (nss ++ mss)
good-append most [] vs [] ms [] mss g h = h
good-append most [] vs [] ms (x ∷ nss) mss g h = absurd g
good-append most [] vs (l ∷ ls) ms nss mss g h = absurd g
good-append most (w ∷ ws) vs [] ms nss mss g h = absurd g
good-append most (w ∷ ws) vs (l ∷ ls) ms [] mss g h = absurd g
good-append most (w ∷ ws) vs (l ∷ ls) ms (x ∷ nss) mss g h = (g.0, g.1, good-append most ws vs ls ms nss mss g.2 h)

pub passes_none : (text : List ℕ) (most at : ℕ) → Passes text most at [] [] at
passes_none text most at = record { front = []; lines_are = refl; good = tt }

pub passes_on : (text : List ℕ) (most at mid next : ℕ) (ws vs : List LineKind) (nss mss : List (List ℕ)) → Passes text most at ws nss mid → Passes
    text most mid vs mss next → Passes text most at (ws ++ vs) (nss ++ mss) next
passes_on text most at mid next ws vs nss mss p q = record {
  front = p.front ++ q.front;
  lines_are = p.lines_are ∙ ap (λ l. p.front ++ l) q.lines_are ∙ sym (append_assoc p.front q.front (text_lines (drop next text)));
  good = good-append most ws vs p.front q.front nss mss p.good q.good;
}

-- a line after those that pass breaks a rule
pub stops_here : (text : List ℕ) (most at next : ℕ) (all ws left : List LineKind) (w : LineKind) (nss : List (List ℕ)) (e : AigRule) (k : ℕ) → all ≡
    ws ++ w ∷ left → length ws ≡ k → Passes text most at ws nss next → BreaksLine most w (text_lines (drop next text)) e → Stops text most at all e k
stops_here text most at next all ws left w nss e k q l p b = record { done = ws; kind = w; left = left; nss = nss; next = next; kinds = q; passes = p; count = l; breaks = b }

-- a section stops after another
pub stops_on : (text : List ℕ) (most at mid : ℕ) (ws vs : List LineKind) (nss : List (List ℕ)) (e : AigRule) (k : ℕ) → Passes text most at ws nss mid
    → Stops text most mid vs e k → Stops text most at (ws ++ vs) e (length ws + k)
stops_on text most at mid ws vs nss e k p s = record {
  done = ws ++ s.done;
  kind = s.kind;
  left = s.left;
  nss = nss ++ s.nss;
  next = s.next;
  kinds = ap (λ l. ws ++ l) s.kinds ∙ sym (append_assoc ws s.done (s.kind ∷ s.left));
  passes = passes_on text most at mid s.next ws s.done nss s.nss p s.passes;
  count = length-append ws s.done ∙ ap (λ n. length ws + n) s.count;
  breaks = s.breaks;
}

-- a section stops before another
pub stops_before : (text : List ℕ) (most at : ℕ) (ws vs : List LineKind) (e : AigRule) (k : ℕ) → Stops text most at ws e k → Stops text most at (ws ++ vs) e k
stops_before text most at ws vs e k s = record {
  done = s.done;
  kind = s.kind;
  left = s.left ++ vs;
  nss = s.nss;
  next = s.next;
  kinds = ap (λ l. l ++ vs) s.kinds ∙ append_assoc s.done (s.kind ∷ s.left) vs;
  passes = s.passes;
  count = s.count;
  breaks = s.breaks;
}

-- ---- lines of one kind

pub kinds_long : (f : ℕ → LineKind) (first k : ℕ) → length (kinds_from f first k) ≡ k
kinds_long f first zero = refl
kinds_long f first (suc k) = ap suc (kinds_long f (suc first) k)

pub kinds-append : (f : ℕ → LineKind) (first a b : ℕ) → kinds_from f first (a + b) ≡ kinds_from f first a ++ kinds_from f (first + a) b
kinds-append f first zero b = λ i. kinds_from f ((let z : first ≡ first + 0 = omega arith in z) i) ((let z : 0 + b ≡ b = omega arith in z) i)
kinds-append f first (suc a) b =
    ap (kinds_from f first) (let z : suc a + b ≡ suc (a + b) = omega arith in z) ∙ ap (λ l. f first ∷ l) (kinds-append f (suc first) a b)
    ∙ (λ i. f first ∷ (kinds_from f (suc first) a ++ kinds_from f ((let z : suc first + a ≡ first + suc a = omega arith in z) i) b))

pub kinds_more : (f : ℕ → LineKind) (first k : ℕ) → kinds_from f first (k + 1) ≡ kinds_from f first k ++ f (first + k) ∷ []
kinds_more f first k = kinds-append f first k 1

pub kinds_split : (f : ℕ → LineKind) (first k n : ℕ) → k < n → kinds_from f first n ≡ kinds_from f first k ++ f (first + k) ∷ kinds_from f (suc (first + k)) (n - (k + 1))
kinds_split f first k n h = ap (kinds_from f first) (let z : n ≡ k + suc (n - (k + 1)) = omega (arith, h) in z) ∙ kinds-append f first k (suc (n - (k + 1)))

pub own_more : (first k : ℕ) → own_numbers first (k + 1) ≡ own_numbers first k ++ (2 * (first + k) ∷ []) ∷ []
own_more first zero = λ i. (2 * (let z : first ≡ first + 0 = omega arith in z) i ∷ []) ∷ []
own_more first (suc k) =
    ap (own_numbers first) (let z : suc k + 1 ≡ suc (k + 1) = omega arith in z) ∙ ap (λ l. (2 * first ∷ []) ∷ l) (own_more (suc first) k)
    ∙ (λ i. (2 * first ∷ []) ∷ (own_numbers (suc first) k ++ (2 * (let z : suc first + k ≡ first + suc k = omega arith in z) i ∷ []) ∷ []))

latch_cons : (x y : ℕ) (l : Lit) → x ≡ y → (2 * x ∷ l.0 ∷ []) ≡ (2 * y ∷ l.0 ∷ [])
latch_cons x y l e = ap (λ k. 2 * k ∷ l.0 ∷ []) e

pub latch_more : (first : ℕ) (ls : List Lit) (l : Lit) → latch_numbers first (ls ++ l ∷ []) ≡ latch_numbers first ls ++ (2 * (first + length ls) ∷ l.0 ∷ []) ∷ []
latch_more first [] l = ap (λ x. x ∷ []) (latch_cons first (first + 0) l (omega arith))
latch_more first (x ∷ ls) l =
    ap (λ r. (2 * first ∷ x.0 ∷ []) ∷ r) (latch_more (suc first) ls l ∙ ap (λ y. latch_numbers (suc first) ls ++ y ∷ []) (latch_cons (suc first + length ls) (first + suc (length ls)) l (omega arith)))

and_cons : (x y : ℕ) (p : Lit × Lit) → x ≡ y → (2 * x ∷ p.0.0 ∷ p.1.0 ∷ []) ≡ (2 * y ∷ p.0.0 ∷ p.1.0 ∷ [])
and_cons x y p e = ap (λ k. 2 * k ∷ p.0.0 ∷ p.1.0 ∷ []) e

pub and_more : (first : ℕ) (ps : List (Lit × Lit)) (p : Lit × Lit) → and_numbers first (ps ++ p ∷ []) ≡ and_numbers first ps ++ (2 * (first + length ps) ∷ p.0.0 ∷ p.1.0 ∷ []) ∷ []
and_more first [] p = ap (λ x. x ∷ []) (and_cons first (first + 0) p (omega arith))
and_more first (x ∷ ps) p =
    ap (λ r. (2 * first ∷ x.0.0 ∷ x.1.0 ∷ []) ∷ r) (and_more (suc first) ps p ∙ ap (λ y. and_numbers (suc first) ps ++ y ∷ [])
    (and_cons (suc first + length ps) (first + suc (length ps)) p (omega arith)))

pub output_more : (ls : List Lit) (l : Lit) → output_numbers (ls ++ l ∷ []) ≡ output_numbers ls ++ (l.0 ∷ []) ∷ []
output_more ls l = map_push (λ (x : Lit). x.0 ∷ []) ls l

pub outputs_split : (k n : ℕ) → k < n → replicate n Output ≡ replicate k Output ++ Output ∷ replicate (n - (k + 1)) Output
outputs_split k n h = ap (λ j. replicate j Output) (let z : n ≡ k + suc (n - (k + 1)) = omega (arith, h) in z) ∙ sym (replicate-append-replicate k (suc (n - (k + 1))) Output)

-- a section after another fails
pub fails_on : (text : List ℕ) (most at mid : ℕ) (ws vs : List LineKind) (nss : List (List ℕ)) (e d : SectionErr) (k : ℕ) → length ws ≡ k → Passes
    text most at ws nss mid → Fails text most mid vs e → Later k e d → Fails text most at (ws ++ vs) d
fails_on text most at mid ws vs nss (Stopped s) (Stopped t) k l p f h = subst (λ r. Stops text most at (ws ++ vs) r t.place) (sym h.0)
    (subst (λ j. Stops text most at (ws ++ vs) s.rule j) (ap (λ j. j + s.place) l ∙ sym h.1) (stops_on text most at mid ws vs nss s.rule s.place p f))
fails_on text most at mid ws vs nss (Stopped s) NoMemory k l p f h = absurd h
fails_on text most at mid ws vs nss NoMemory (Stopped t) k l p f h = absurd h
fails_on text most at mid ws vs nss NoMemory NoMemory k l p f h = tt

pub fails_before : (text : List ℕ) (most at : ℕ) (ws vs : List LineKind) (e : SectionErr) → Fails text most at ws e → Fails text most at (ws ++ vs) e
fails_before text most at ws vs (Stopped s) f = stops_before text most at ws vs s.rule s.place f
fails_before text most at ws vs NoMemory f = tt
