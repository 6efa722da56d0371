-- A text is at most one circuit, or has at most one first fault, and not both.
use Rattle.safl_aiger.proofs.Common.{AigRule, LineKind, Lit, length-replicate}
use Rattle.std.proofs.Common.{◌≡◌, ℕ, zero, suc, ◌+◌, ◌^◌, ◌<◌, List, [], ◌∷◌, ◌++◌, length, drop, codes, inl, inr, refl, sym, ap, ◌∙◌, subst, arith}
use Rattle.safl_word.proofs.Lists.{append_parts}
use Rattle.safl_aiger.specs.declared.reading.LineKind.TheVariants.{Input, Latch, Output, And}
use Rattle.safl_aiger.specs.Circuits.{Circuit, latches, variables, base}
use Rattle.safl_aiger.specs.Lines.{fields, AreDecimals, HasNumbers}
use Rattle.safl_aiger.specs.Reads.{Counts, IsHeader, total, size, IsGood, line_kinds, AreGood, own_numbers, latch_numbers, output_numbers}
use Rattle.safl_aiger.specs.Reads.{and_numbers, body_numbers, counts_of, Named, NamesPlace, NamePlaces, with_name, unnamed, named_of, EndsSymbols, HasHeader}
use Rattle.safl_aiger.specs.Reads.{AigReads, IsBad, BreaksLine, LineFault, SymbolFault, HasAigFault, bad_header, bad_line, bad_symbol}
use Rattle.safl_aiger.specs.Symbols.{IsSmall}
use Rattle.safl_aiger.proofs.Cutting.{decimals_once, decimals_small}
use Rattle.safl_aiger.proofs.Naming.{symbol_once, symbol_not_end, place_small, small_kept}
use Rattle.safl_aiger.proofs.Building.{good_long, own_long, latch_long, output_long}

-- ---- the header

pub header_once : (line : List ℕ) (c d : Counts) → IsHeader line c → IsHeader line d → c ≡ d
header_once line c d h k =
    let e : codes "aag " ++ h.0 ≡ codes "aag " ++ k.0 = sym h.1 ∙ k.1 in
    let r : h.0 ≡ k.0 = ap (drop 4) e in
    let ns = decimals_once (fields k.0) (total c ∷ c.inputs ∷ c.latches ∷ c.outputs ∷ c.ands ∷ [])
    (total d ∷ d.inputs ∷ d.latches ∷ d.outputs ∷ d.ands ∷ [])
    (subst (λ w. AreDecimals (fields w) (total c ∷ c.inputs ∷ c.latches ∷ c.outputs ∷ c.ands ∷ [])) r h.2) k.2 in
    let i : c.inputs ≡ d.inputs = cc in
    let l : c.latches ≡ d.latches = cc in
    let o : c.outputs ≡ d.outputs = cc in
    let a : c.ands ≡ d.ands = cc in
    λ z. record { inputs = i z; latches = l z; outputs = o z; ands = a z }

pub begins_once : (text : List ℕ) (c d : Counts) (ls ms : List (List ℕ)) → HasHeader text c ls → HasHeader text d ms → (c ≡ d) × (ls ≡ ms)
begins_once text c d ls ms b k =
    let e : b.head ∷ ls ≡ k.head ∷ ms = sym b.lines_are ∙ k.lines_are in
    let h : b.head ≡ k.head = cc in
    let r : ls ≡ ms = cc in
    (header_once k.head c d (subst (λ (x : List ℕ). IsHeader x c) h b.header) k.header, r)

pub header_small : (line : List ℕ) (c : Counts) → IsHeader line c → IsSmall (unnamed c)
header_small line c h =
    let ns = total c ∷ c.inputs ∷ c.latches ∷ c.outputs ∷ c.ands ∷ [] in
    let small : (k n : ℕ) → n < 2 ^ 31 → k ≡ n → k < 2 ^ 31 = (λ k n l e. omega (arith, l, e)) in
    record {
      inputs = small _ c.inputs (decimals_small (fields h.0) ns 1 c.inputs h.2 refl) (length-replicate c.inputs []);
      latches = small _ c.latches (decimals_small (fields h.0) ns 2 c.latches h.2 refl) (length-replicate c.latches []);
      outputs = small _ c.outputs (decimals_small (fields h.0) ns 3 c.outputs h.2 refl) (length-replicate c.outputs []);
    }

pub outputs_small : (line : List ℕ) (c : Counts) → IsHeader line c → c.outputs < 2 ^ 31
outputs_small line c h = decimals_small (fields h.0) (total c ∷ c.inputs ∷ c.latches ∷ c.outputs ∷ c.ands ∷ []) 3 c.outputs h.2 refl

-- ---- lines of the body

good_size : (most : ℕ) (w : LineKind) (ns : List ℕ) → IsGood most w ns → length ns ≡ size w
good_size most (Input v) [] g = absurd g
good_size most (Input v) (x ∷ []) g = refl
good_size most (Input v) (x ∷ (y ∷ ns)) g = absurd g
good_size most (Latch v) [] g = absurd g
good_size most (Latch v) (x ∷ []) g = absurd g
good_size most (Latch v) (x ∷ (y ∷ [])) g = refl
good_size most (Latch v) (x ∷ (y ∷ (z ∷ ns))) g = absurd g
good_size most Output [] g = absurd g
good_size most Output (x ∷ []) g = refl
good_size most Output (x ∷ (y ∷ ns)) g = absurd g
good_size most (And v) [] g = absurd g
good_size most (And v) (x ∷ []) g = absurd g
good_size most (And v) (x ∷ (y ∷ [])) g = absurd g
good_size most (And v) (x ∷ (y ∷ (z ∷ []))) g = refl
good_size most (And v) (x ∷ (y ∷ (z ∷ (u ∷ ns)))) g = absurd g

bad_good : (most : ℕ) (w : LineKind) (l ns : List ℕ) (e : AigRule) → IsBad most w l e → HasNumbers l ns → IsGood most w ns → ⊥
bad_good most w l ns e (inl b) h g = b.1 (ns, good_size most w ns g, h)
bad_good most w l ns e (inr b) h g =
    let z : ns ≡ b.1.0 = decimals_once (fields l) ns b.1.0 h b.1.1 in
    b.1.3 (subst (λ (x : List ℕ). IsGood most w x) z g)

bad_once : (most : ℕ) (w : LineKind) (l : List ℕ) (e d : AigRule) → IsBad most w l e → IsBad most w l d → e ≡ d
bad_once most w l e d (inl a) (inl b) = a.0 ∙ sym b.0
bad_once most w l e d (inl a) (inr b) = absurd (a.1 (b.1.0, b.1.2, b.1.1))
bad_once most w l e d (inr a) (inl b) = absurd (b.1 (a.1.0, a.1.2, a.1.1))
bad_once most w l e d (inr a) (inr b) = a.0 ∙ sym b.0

breaks_once : (most : ℕ) (w : LineKind) (ls : List (List ℕ)) (e d : AigRule) → BreaksLine most w ls e → BreaksLine most w ls d → e ≡ d
breaks_once most w [] e d a b = a ∙ sym b
breaks_once most w (l ∷ ls) e d a b = bad_once most w l e d a b

pub fault_once : (most : ℕ) (ws : List LineKind) (ls : List (List ℕ)) (e d : AigRule) (k j : ℕ) → LineFault most ws ls e k → LineFault most ws ls d j → (e ≡ d) × (k ≡ j)
fault_once most [] ls e d k j a b = absurd a
fault_once most (w ∷ ws) ls e d zero zero a b = (breaks_once most w ls e d a b, refl)
fault_once most (w ∷ ws) [] e d zero (suc j) a b = absurd b
fault_once most (w ∷ ws) (l ∷ ls) e d zero (suc j) a b = absurd (bad_good most w l b.0 e a b.1 b.2)
fault_once most (w ∷ ws) [] e d (suc k) j a b = absurd a
fault_once most (w ∷ ws) (l ∷ ls) e d (suc k) zero a b = absurd (bad_good most w l a.0 d b a.1 a.2)
fault_once most (w ∷ ws) (l ∷ ls) e d (suc k) (suc j) a b = let r = fault_once most ws ls e d k j a.3 b.3 in (r.0, ap suc r.1)

pub good_fault : (most : ℕ) (ws : List LineKind) (ls nss rest : List (List ℕ)) (e : AigRule) (k : ℕ) → AreGood most ws ls nss → LineFault most ws (ls ++ rest) e k → ⊥
good_fault most [] ls nss rest e k g f = f
good_fault most (w ∷ ws) [] nss rest e k g f = absurd g
good_fault most (w ∷ ws) (l ∷ ls) [] rest e k g f = absurd g
good_fault most (w ∷ ws) (l ∷ ls) (n ∷ nss) rest e zero g f = bad_good most w l n e f g.0 g.1
good_fault most (w ∷ ws) (l ∷ ls) (n ∷ nss) rest e (suc k) g f = good_fault most ws ls nss rest e k g.2 f.3

pub good_once : (most : ℕ) (ws : List LineKind) (ls ms nss mss xs ys : List (List ℕ)) → AreGood most ws ls nss → AreGood most ws ms mss → ls ++ xs ≡ ms ++ ys → (xs ≡ ys) × (nss ≡ mss)
good_once most [] [] [] [] [] xs ys g h e = (e, refl)
good_once most [] [] [] [] (m ∷ mss) xs ys g h e = absurd h
good_once most [] [] [] (n ∷ nss) mss xs ys g h e = absurd g
good_once most [] [] (m ∷ ms) nss mss xs ys g h e = absurd h
good_once most [] (l ∷ ls) ms nss mss xs ys g h e = absurd g
good_once most (w ∷ ws) [] ms nss mss xs ys g h e = absurd g
good_once most (w ∷ ws) (l ∷ ls) [] nss mss xs ys g h e = absurd h
good_once most (w ∷ ws) (l ∷ ls) (m ∷ ms) [] mss xs ys g h e = absurd g
good_once most (w ∷ ws) (l ∷ ls) (m ∷ ms) (n ∷ nss) [] xs ys g h e = absurd h
good_once most (w ∷ ws) (l ∷ ls) (m ∷ ms) (n ∷ nss) (k ∷ mss) xs ys g h e =
    let z : l ≡ m = cc in
    let rest : ls ++ xs ≡ ms ++ ys = cc in
    let q : n ≡ k = decimals_once (fields m) n k (subst (λ (x : List ℕ). HasNumbers x n) z g.0) h.0 in
    let r = good_once most ws ls ms nss mss xs ys g.2 h.2 rest in
    (r.0, λ i. q i ∷ r.1 i)

-- ---- symbols

pub place_once : (line : List ℕ) (old a b : Named) → IsSmall old → NamesPlace line old a → NamesPlace line old b → a ≡ b
place_once line old a b s p r =
    let q = symbol_once p.sort r.sort p.place r.place p.name r.name (place_small line old a p s) (place_small line old b r s) (sym p.is ∙ r.is) in
    p.sets ∙ (λ i. with_name (q.0 i) (q.1 i) (q.2 i) old) ∙ sym r.sets

end_name : (xs rest : List (List ℕ)) (m : List ℕ) (old new : Named) → EndsSymbols xs → xs ≡ m ∷ rest → NamesPlace m old new → ⊥
end_name xs rest m old new e q p =
    let c : m ≡ codes "c" = subst (λ (x : List (List ℕ)). EndsSymbols x) q e in
    symbol_not_end p.sort p.place p.name (sym p.is ∙ c)

pub names_once : (ls ms xs ys : List (List ℕ)) (old a b : Named) → IsSmall old → NamePlaces ls old a → NamePlaces ms old b → EndsSymbols xs → EndsSymbols ys → ls ++ xs ≡ ms ++ ys → a ≡ b
names_once [] [] xs ys old a b s p q ex ey e = p ∙ sym q
names_once [] (m ∷ ms) xs ys old a b s p q ex ey e = absurd (end_name xs (ms ++ ys) m old q.0 ex e q.1)
names_once (l ∷ ls) [] xs ys old a b s p q ex ey e = absurd (end_name ys (ls ++ xs) l old p.0 ey (sym e) p.1)
names_once (l ∷ ls) (m ∷ ms) xs ys old a b s p q ex ey e =
    let z : l ≡ m = cc in
    let rest : ls ++ xs ≡ ms ++ ys = cc in
    let mid : q.0 ≡ p.0 = place_once l old q.0 p.0 s (subst (λ (x : List ℕ). NamesPlace x old q.0) (sym z) q.1) p.1 in
    names_once ls ms xs ys p.0 a b (small_kept l old p.0 p.1 s) p.2 (subst (λ (x : Named). NamePlaces ms x b) mid q.2) ex ey rest

pub symbol_fault_once : (ls : List (List ℕ)) (old : Named) (k j : ℕ) → IsSmall old → SymbolFault ls old k → SymbolFault ls old j → k ≡ j
symbol_fault_once [] old k j s a b = absurd a
symbol_fault_once (l ∷ ls) old zero zero s a b = refl
symbol_fault_once (l ∷ ls) old zero (suc j) s a b = absurd (a.1 b.0 b.1)
symbol_fault_once (l ∷ ls) old (suc k) zero s a b = absurd (b.1 a.0 a.1)
symbol_fault_once (l ∷ ls) old (suc k) (suc j) s a b =
    let mid : b.0 ≡ a.0 = place_once l old b.0 a.0 s b.1 a.1 in
    ap suc (symbol_fault_once ls a.0 k j (small_kept l old a.0 a.1 s) a.2 (subst (λ (x : Named). SymbolFault ls x j) mid b.2))

pub names_fault : (ls xs : List (List ℕ)) (old new : Named) (k : ℕ) → IsSmall old → NamePlaces ls old new → EndsSymbols xs → SymbolFault (ls ++ xs) old k → ⊥
names_fault [] [] old new k s p e f = f
names_fault [] (x ∷ xs) old new zero s p e f = f.0 e
names_fault [] (x ∷ xs) old new (suc k) s p e f = symbol_not_end f.1.sort f.1.place f.1.name (sym f.1.is ∙ e)
names_fault (l ∷ ls) xs old new zero s p e f = f.1 p.0 p.1
names_fault (l ∷ ls) xs old new (suc k) s p e f =
    let mid : f.0 ≡ p.0 = place_once l old f.0 p.0 s f.1 p.1 in
    names_fault ls xs p.0 new k (small_kept l old p.0 p.1 s) p.2 e (subst (λ (x : Named). SymbolFault (ls ++ xs) x k) mid f.2)

-- ---- one fault

-- the facts of other counts, which are the same
line_fault_of : (c d : Counts) (ls ms : List (List ℕ)) (e : AigRule) (k : ℕ) → (c ≡ d) × (ls ≡ ms) → LineFault (total c) (line_kinds c) ls e k → LineFault (total d) (line_kinds d) ms e k
line_fault_of c d ls ms e k o f = subst (λ (x : Counts). LineFault (total x) (line_kinds x) ms e k) o.0 (subst (λ (x : List (List ℕ)). LineFault (total c) (line_kinds c) x e k) o.1 f)

good_of : (c d : Counts) (body nss : List (List ℕ)) → c ≡ d → AreGood (total c) (line_kinds c) body nss → AreGood (total d) (line_kinds d) body nss
good_of c d body nss o g = subst (λ (x : Counts). AreGood (total x) (line_kinds x) body nss) o g

symbol_fault_of : (c d : Counts) (ls ms : List (List ℕ)) (k : ℕ) → c ≡ d → ls ≡ ms → SymbolFault ls (unnamed c) k → SymbolFault ms (unnamed d) k
symbol_fault_of c d ls ms k o e f = subst (λ (x : Counts). SymbolFault ms (unnamed x) k) o (subst (λ (x : List (List ℕ)). SymbolFault x (unnamed c) k) e f)

pub one_fault : (text : List ℕ) (e d : AigRule) (n m : ℕ) → HasAigFault text e n → HasAigFault text d m → (e ≡ d) × (n ≡ m)
one_fault text e d n m (bad_header x p q) (bad_header y r s) = (p ∙ sym r, q ∙ sym s)
one_fault text e d n m (bad_header x p q) (bad_line c ls k b f z) = absurd (x c ls b)
one_fault text e d n m (bad_header x p q) (bad_symbol c body ls nss k b g f r s) = absurd (x c (body ++ ls) b)
one_fault text e d n m (bad_line c ls k b f z) (bad_header x p q) = absurd (x c ls b)
one_fault text e d n m (bad_line c ls k b f z) (bad_line c' ls' k' b' f' z') =
    let o = begins_once text c c' ls ls' b b' in
    let r = fault_once (total c') (line_kinds c') ls' e d k k' (line_fault_of c c' ls ls' e k o f) f' in
    (r.0, z ∙ ap (λ x. 2 + x) r.1 ∙ sym z')
one_fault text e d n m (bad_line c ls k b f z) (bad_symbol c' body ls' nss k' b' g f' r s) =
    let o = begins_once text c c' ls (body ++ ls') b b' in
    absurd (good_fault (total c') (line_kinds c') body nss ls' e k g (line_fault_of c c' ls (body ++ ls') e k o f))
one_fault text e d n m (bad_symbol c body ls nss k b g f r s) (bad_header x p q) = absurd (x c (body ++ ls) b)
one_fault text e d n m (bad_symbol c' body ls' nss k' b' g f' r s) (bad_line c ls k b f z) =
    let o = begins_once text c c' ls (body ++ ls') b b' in
    absurd (good_fault (total c') (line_kinds c') body nss ls' d k g (line_fault_of c c' ls (body ++ ls') d k o f))
one_fault text e d n m (bad_symbol c body ls nss k b g f r s) (bad_symbol c' body' ls' nss' k' b' g' f' r' s') =
    let o = begins_once text c c' (body ++ ls) (body' ++ ls') b b' in
    let h = good_of c c' body nss o.0 g in
    let t = good_once (total c') (line_kinds c') body body' nss nss' ls ls' h g' o.1 in
    let i = symbol_fault_once ls' (unnamed c') k k' (header_small b'.head c' b'.header) (symbol_fault_of c c' ls ls' k o.0 t.0 f) f' in
    let l = good_long (total c') (line_kinds c') body nss h in
    let l' = good_long (total c') (line_kinds c') body' nss' g' in
    (r ∙ sym r', omega (arith, s, s', i, l, l'))

pub no_fault : (text : List ℕ) (a : Circuit) (e : AigRule) (n : ℕ) → AigReads text a → HasAigFault text e n → ⊥
no_fault text a e n r (bad_header x p q) = x (counts_of a) (r.body ++ (r.symbols ++ r.rest)) r.begins
no_fault text a e n r (bad_line c ls k b f z) =
    let o = begins_once text c (counts_of a) ls (r.body ++ (r.symbols ++ r.rest)) b r.begins in
    good_fault (variables a) (line_kinds (counts_of a)) r.body (body_numbers a) (r.symbols ++ r.rest) e k r.good (line_fault_of c (counts_of a) ls (r.body ++ (r.symbols ++ r.rest)) e k o f)
no_fault text a e n r (bad_symbol c body ls nss k b g f p q) =
    let d = counts_of a in
    let o = begins_once text c d (body ++ ls) (r.body ++ (r.symbols ++ r.rest)) b r.begins in
    let t = good_once (variables a) (line_kinds d) body r.body nss (body_numbers a) ls (r.symbols ++ r.rest) (good_of c d body nss o.0 g) r.good o.1 in
    names_fault r.symbols r.rest (unnamed d) (named_of a) k (header_small r.begins.head d r.begins.header) r.names r.ends (symbol_fault_of c d ls (r.symbols ++ r.rest) k o.0 t.0 f)

-- ---- one circuit

lit_same : (l m : Lit) → l.0 ≡ m.0 → l ≡ m
lit_same l m e = λ i. record { 0 = e i }

latches_once : (f g : ℕ) (ls ms : List Lit) → latch_numbers f ls ≡ latch_numbers g ms → ls ≡ ms
latches_once f g [] [] e = refl
latches_once f g [] (m ∷ ms) e = absurd (cc)
latches_once f g (l ∷ ls) [] e = absurd (cc)
latches_once f g (l ∷ ls) (m ∷ ms) e =
    let z : l.0 ≡ m.0 = cc in
    let t : latch_numbers (suc f) ls ≡ latch_numbers (suc g) ms = cc in
    λ i. lit_same l m z i ∷ latches_once (suc f) (suc g) ls ms t i

outputs_once : (ls ms : List Lit) → output_numbers ls ≡ output_numbers ms → ls ≡ ms
outputs_once [] [] e = refl
outputs_once [] (m ∷ ms) e = absurd (cc)
outputs_once (l ∷ ls) [] e = absurd (cc)
outputs_once (l ∷ ls) (m ∷ ms) e =
    let z : l.0 ≡ m.0 = cc in
    let t : output_numbers ls ≡ output_numbers ms = cc in
    λ i. lit_same l m z i ∷ outputs_once ls ms t i

pair_same : (p q : Lit × Lit) → p.0.0 ≡ q.0.0 → p.1.0 ≡ q.1.0 → p ≡ q
pair_same p q d e = λ i. (lit_same p.0 q.0 d i, lit_same p.1 q.1 e i)

ands_once : (f g : ℕ) (ps qs : List (Lit × Lit)) → and_numbers f ps ≡ and_numbers g qs → ps ≡ qs
ands_once f g [] [] e = refl
ands_once f g [] (q ∷ qs) e = absurd (cc)
ands_once f g (p ∷ ps) [] e = absurd (cc)
ands_once f g (p ∷ ps) (q ∷ qs) e =
    let y : p.0.0 ≡ q.0.0 = cc in
    let z : p.1.0 ≡ q.1.0 = cc in
    let t : and_numbers (suc f) ps ≡ and_numbers (suc g) qs = cc in
    λ i. pair_same p q y z i ∷ ands_once (suc f) (suc g) ps qs t i

circuit_once : (a b : Circuit) → counts_of a ≡ counts_of b → body_numbers a ≡ body_numbers b → named_of a ≡ named_of b → a ≡ b
circuit_once a b c e n =
    let ci : a.inputs ≡ b.inputs = ap (λ (x : Counts). x.inputs) c in
    let cl : latches a ≡ latches b = ap (λ (x : Counts). x.latches) c in
    let co : length a.outputs ≡ length b.outputs = ap (λ (x : Counts). x.outputs) c in
    let e1 = append_parts (own_numbers 1 a.inputs) _ (own_numbers 1 b.inputs) _ (own_long 1 a.inputs ∙ ci ∙ sym (own_long 1 b.inputs)) e in
    let e2 = append_parts (latch_numbers (1 + a.inputs) a.nexts) _ (latch_numbers (1 + b.inputs) b.nexts) _ (latch_long (1 + a.inputs) a.nexts ∙ cl ∙ sym (latch_long (1 + b.inputs) b.nexts)) e1.1 in
    let e3 = append_parts (output_numbers a.outputs) _ (output_numbers b.outputs) _ (output_long a.outputs ∙ co ∙ sym (output_long b.outputs)) e2.1 in
    let x : a.nexts ≡ b.nexts = latches_once (1 + a.inputs) (1 + b.inputs) a.nexts b.nexts e2.0 in
    let y : a.outputs ≡ b.outputs = outputs_once a.outputs b.outputs e3.0 in
    let z : a.ands ≡ b.ands = ands_once (base a) (base b) a.ands b.ands e3.1 in
    let ni : a.input_names ≡ b.input_names = ap (λ (m : Named). m.inputs) n in
    let nl : a.latch_names ≡ b.latch_names = ap (λ (m : Named). m.latches) n in
    let no : a.output_names ≡ b.output_names = ap (λ (m : Named). m.outputs) n in
    λ i. record { inputs = ci i; nexts = x i; outputs = y i; ands = z i; input_names = ni i; latch_names = nl i; output_names = no i }

pub one_reading : (text : List ℕ) (a b : Circuit) → AigReads text a → AigReads text b → a ≡ b
one_reading text a b r s =
    let c = counts_of a in
    let d = counts_of b in
    let o = begins_once text c d (r.body ++ (r.symbols ++ r.rest)) (s.body ++ (s.symbols ++ s.rest)) r.begins s.begins in
    let t = good_once (total d) (line_kinds d) r.body s.body (body_numbers a) (body_numbers b) (r.symbols ++ r.rest) (s.symbols ++ s.rest)
    (good_of c d r.body (body_numbers a) o.0 r.good) s.good o.1 in
    let n = names_once r.symbols s.symbols r.rest s.rest (unnamed d) (named_of a) (named_of b) (header_small s.begins.head d s.begins.header)
    (subst (λ (x : Counts). NamePlaces r.symbols (unnamed x) (named_of a)) o.0 r.names) s.names r.ends s.ends t.0 in
    circuit_once a b o.0 t.1 n
