-- What the lines that were read say of the whole text.
use Rattle.safl_aiger.proofs.Common.{AigRule, LineKind, Lit, Name}
use Rattle.std.proofs.Common.{◌≡◌, ℕ, suc, ◌+◌, ◌^◌, ◌<◌, ◌≤◌, ◌==◌, List, [], ◌∷◌, ◌++◌, length, drop, Bool, true, false, cond, refl, sym, ap, ◌∙◌, subst, arith, length-append}
use Rattle.std.proofs.lemmas.List.{length-map}
use Rattle.safl_aiger.specs.declared.circuit.Names.{Names}
use Rattle.safl_aiger.specs.declared.reading.AigRule.TheVariants.{B01, B04}
use Rattle.safl_aiger.specs.declared.sections.Body.{Body}
use Rattle.safl_aiger.specs.Circuits.{Circuit, IsCircuit, circuit_of}
use Rattle.safl_aiger.specs.Lines.{grown, text_lines}
use Rattle.safl_aiger.specs.Reads.{Counts, IsHeader, total, line_kinds, AreGood, own_numbers, latch_numbers, output_numbers, and_numbers, counts_of}
use Rattle.safl_aiger.specs.Reads.{Named, NamePlaces, unnamed, named_of, EndsSymbols, HasHeader, AigReads, BreaksLine, LineFault, SymbolFault, HasAigFault, bad_header, bad_line}
use Rattle.safl_aiger.specs.Reads.{bad_symbol}
use Rattle.safl_aiger.specs.Sections.{Stops, BodyIs}
use Rattle.safl_aiger.specs.Symbols.{named, SymbolsPass}
use Rattle.safl_aiger.proofs.Building.{AllFree, lines_free, free_parts, good_long, kinds_count, NamesFit, names_fit, is_circuit}

-- ---- faults

line_fault : (most : ℕ) (done : List LineKind) (w : LineKind) (left : List LineKind) (passed nss others : List (List ℕ)) (e : AigRule) → AreGood most
    done passed nss → BreaksLine most w others e → LineFault most (done ++ w ∷ left) (passed ++ others) e (length done)
line_fault most [] w left [] [] others e g b = b
line_fault most [] w left [] (n ∷ nss) others e g b = absurd g
line_fault most [] w left (l ∷ passed) nss others e g b = absurd g
line_fault most (v ∷ done) w left [] nss others e g b = absurd g
line_fault most (v ∷ done) w left (l ∷ passed) [] others e g b = absurd g
line_fault most (v ∷ done) w left (l ∷ passed) (n ∷ nss) others e g b = (n, g.0, g.1, line_fault most done w left passed nss others e g.2 b)

pub body_fault : (text : List ℕ) (at : ℕ) (c : Counts) (e : AigRule) (k : ℕ) → HasHeader text c (text_lines (drop at text)) → Stops text (total c) at (line_kinds c) e k → HasAigFault text e (2 + k)
body_fault text at c e k b s =
    let most = total c in
    let p = s.passes in
    let others = text_lines (drop s.next text) in
    let one = line_fault most s.done s.kind s.left p.front s.nss others e p.good s.breaks in
    let two : LineFault most (s.done ++ s.kind ∷ s.left) (p.front ++ others) e k = subst (λ j. LineFault most (s.done ++ s.kind ∷ s.left) (p.front ++ others) e j) s.count one in
    let three : LineFault most (s.done ++ s.kind ∷ s.left) (text_lines (drop at text)) e k = subst (λ (ls : List (List ℕ)). LineFault most (s.done ++ s.kind ∷ s.left) ls e k) (sym p.lines_are) two in
    let four : LineFault most (line_kinds c) (text_lines (drop at text)) e k = subst (λ (ws : List LineKind). LineFault most ws (text_lines (drop at text)) e k) (sym s.kinds) three in
    bad_line c (text_lines (drop at text)) k b four refl

pub stop_small : (text : List ℕ) (most at : ℕ) (c : Counts) (e : AigRule) (k : ℕ) → Stops text most at (line_kinds c) e k → k < c.inputs + c.latches + c.outputs + c.ands
stop_small text most at c e k s =
    let a = ap length s.kinds in
    let b = length-append s.done (s.kind ∷ s.left) in
    let d = s.count in
    let n = kinds_count c in
    omega (arith, a, b, d, n)

-- the header, and the lines after the body
behind : (text : List ℕ) (at : ℕ) (c : Counts) (b : Body) (h : HasHeader text c (text_lines (drop at text))) (p : BodyIs text at c b)
    → HasHeader text c (p.passes.front ++ text_lines (drop b.next text))
behind text at c b h p = record { head = h.head; lines_are = h.lines_are ∙ ap (λ x. h.head ∷ x) p.passes.lines_are; header = h.header }

pub symbols_fault : (text : List ℕ) (at : ℕ) (c : Counts) (b : Body) (k n : ℕ) → HasHeader text c (text_lines (drop at text)) → BodyIs text at c b →
    SymbolFault (text_lines (drop b.next text)) (unnamed c) k → n ≡ (1 + c.inputs + c.latches + c.outputs + c.ands) + k + 1 → HasAigFault text B04 n
symbols_fault text at c b k n h p f e =
    let body = p.passes.front in
    let l = good_long (total c) (line_kinds c) body _ p.passes.good in
    let m = kinds_count c in
    bad_symbol c body (text_lines (drop b.next text)) _ k (behind text at c b h p) p.passes.good f refl (omega (arith, e, l, m))

pub no_header : (text line : List ℕ) (rest : List (List ℕ)) → text_lines text ≡ line ∷ rest → ((c : Counts) → ¬ (IsHeader line c)) → HasAigFault text B01 1
no_header text line rest e h = bad_header (λ c ls b. let q : b.head ≡ line = (let z = b.lines_are in cc) in h c (subst (λ (x : List ℕ). IsHeader x c) q b.header)) refl refl

pub no_line : (text : List ℕ) → text_lines text ≡ [] → HasAigFault text B01 1
no_line text e = bad_header (λ c ls b. let q : [] ≡ b.head ∷ ls = sym e ∙ b.lines_are in cc) refl refl

-- ---- how many lines there are

grown_few : (c : ℕ) (ls : List (List ℕ)) → length (grown c ls) ≤ suc (length ls)
grown_few c [] = omega arith
grown_few c (l ∷ ls) = omega arith

lines_few : (t : List ℕ) → length (text_lines t) ≤ length t
lines_few [] = omega arith
lines_few (c ∷ t) = by (c == 10) (lines_few t)
  where
    by : (b : Bool) → length (text_lines t) ≤ length t → length (cond b ([] ∷ text_lines t) (grown c (text_lines t))) ≤ suc (length t)
    by true h = omega (arith, h)
    by false h = let g = grown_few c (text_lines t) in omega (arith, h, g)

-- the lines before the symbols, and the others
pub lines_room : (text : List ℕ) (at : ℕ) (c : Counts) (b : Body) → HasHeader text c (text_lines (drop at text)) → BodyIs text at c b →
    (1 + c.inputs + c.latches + c.outputs + c.ands) + length (text_lines (drop b.next text)) ≤ length text
lines_room text at c b h p =
    let z = ap length (behind text at c b h p).lines_are in
    let l = good_long (total c) (line_kinds c) p.passes.front _ p.passes.good in
    let m = kinds_count c in
    let a = length-append p.passes.front (text_lines (drop b.next text)) in
    let f = lines_few text in
    omega (arith, z, l, m, a, f)

-- ---- the circuit

-- the numbers of a body with these counts
abbrev pub numbers : Counts → List Lit → List Lit → List (Lit × Lit) → List (List ℕ)
numbers c nexts outputs ands = own_numbers 1 c.inputs ++ (latch_numbers (1 + c.inputs) nexts ++ (output_numbers outputs ++ and_numbers (1 + c.inputs + c.latches) ands))

-- the circuit of these parts
abbrev pub made : ℕ → List Lit → List Lit → List (Lit × Lit) → Named → Circuit
made inputs nexts outputs ands n = record { inputs = inputs; nexts = nexts; outputs = outputs; ands = ands; input_names = n.inputs; latch_names = n.latches; output_names = n.outputs }

-- what a text reads as is a circuit
pub read_circuit : (text : List ℕ) (a : Circuit) → length a.outputs < 2 ^ 31 → AigReads text a → IsCircuit a
read_circuit text a small r =
    let h = r.begins in
    let free : AllFree (h.head ∷ (r.body ++ (r.symbols ++ r.rest))) = subst (λ (ls : List (List ℕ)). AllFree ls) h.lines_are (lines_free text) in
    let free_names : AllFree r.symbols = (free_parts r.symbols r.rest (free_parts r.body (r.symbols ++ r.rest) free.1).1).0 in
    is_circuit a r.body r.good small (names_fit (counts_of a) r.symbols (named_of a) free_names r.names)

pub reads_from : (text : List ℕ) (c : Counts) (body symbols left : List (List ℕ)) (nexts outputs : List Lit) (ands : List (Lit × Lit)) (n : Named) →
    c.outputs < 2 ^ 31 → length nexts ≡ c.latches → length outputs ≡ c.outputs → length ands ≡ c.ands
    → HasHeader text c (body ++ (symbols ++ left)) → AreGood (total c) (line_kinds c) body (numbers c nexts outputs ands) → NamePlaces symbols
    (unnamed c) n → EndsSymbols left → AigReads text (made c.inputs nexts outputs ands n)
reads_from text c body symbols left nexts outputs ands n small ln lo la h g p e =
    let a : Circuit = made c.inputs nexts outputs ands n in
    let same : c ≡ counts_of a = (λ i. record { inputs = c.inputs; latches = sym ln i; outputs = sym lo i; ands = sym la i }) in
    let good = subst (λ (d : Counts). AreGood (total d) (line_kinds d) body (numbers d nexts outputs ands)) same g in
    record {
      body = body;
      symbols = symbols;
      rest = left;
      begins = subst (λ (d : Counts). HasHeader text d (body ++ (symbols ++ left))) same h;
      good = good;
      names = subst (λ (d : Counts). NamePlaces symbols (unnamed d) n) same p;
      ends = e;
    }

pub reads : (text : List ℕ) (at : ℕ) (c : Counts) (b : Body) (names : Names) → c.outputs < 2 ^ 31 → HasHeader text c (text_lines (drop at text)) → BodyIs text
    at c b → SymbolsPass (text_lines (drop b.next text)) (unnamed c) (named names)
    → AigReads text (circuit_of b.nexts.items b.outputs.items b.ands.items names)
reads text at c b names small h p s =
    let nexts = b.nexts.items in
    let outputs = b.outputs.items in
    let ands = b.ands.items in
    let left = s.0 in
    let u = s.1 in
    let body = p.passes.front in
    let begins : HasHeader text c (body ++ (u.symbols ++ left)) = subst (λ (x : List (List ℕ)). HasHeader text c (body ++ x)) u.lines_are (behind text at c b h p) in
    let r = reads_from text c body u.symbols left nexts outputs ands (named names) small p.latches p.outputs p.ands begins p.passes.good u.names s.2 in
    let free : AllFree (begins.head ∷ (body ++ (u.symbols ++ left))) = subst (λ (ls : List (List ℕ)). AllFree ls) begins.lines_are (lines_free text) in
    let free_names : AllFree u.symbols = (free_parts u.symbols left (free_parts body (u.symbols ++ left) free.1).1).0 in
    let fit : NamesFit c (named names) = names_fit c u.symbols (named names) free_names u.names in
    let inputs : length names.inputs.items ≡ c.inputs = sym (length-map names.inputs.items (λ (n : Name). n.bytes.items)) ∙ fit.inputs in
    subst (λ (i : ℕ). AigReads text (made i nexts outputs ands (named names))) (sym inputs) r

pub reads_circuit : (text : List ℕ) (at : ℕ) (c : Counts) (b : Body) (names : Names) → c.outputs < 2 ^ 31 → HasHeader text c (text_lines (drop at text)) → BodyIs
    text at c b → SymbolsPass (text_lines (drop b.next text)) (unnamed c) (named names)
    → IsCircuit (circuit_of b.nexts.items b.outputs.items b.ands.items names)
reads_circuit text at c b names small h p s =
    read_circuit text (circuit_of b.nexts.items b.outputs.items b.ands.items names) (let o = p.outputs in omega (arith, o, small)) (reads text at c b names small h p s)
