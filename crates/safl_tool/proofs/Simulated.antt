-- What a run of a compiled source says.
use Rattle.safl_tool.proofs.Common.{AreWordsOf, CheckedProgram, Done, GivesOutcome, HaveFault, IsCircuitOf, IsCompiled, IsSourceOf, Names}
use Rattle.safl_tool.proofs.Common.{Program, Refusal, RefusesArguments, RefusesBy, Status, Word, argument_widths, as_word, may_give}
use Rattle.std.specs.Prelude.{IfSome}
use Rattle.std.proofs.Common.{◌≡◌, ℕ, List, [], ◌∷◌, ◌++◌, map, Option, Some, None, slice_get, false, refl, sym, ap, subst, ◌∙◌, inl, inr, codes}
use Rattle.safl_net.specs.Netlist.{Netlist, output_place}
use Rattle.safl_net.specs.Valuations.{Valuation, read_output, reset_state}
use Rattle.safl_run.specs.Calls.{IsOutcome, Replies}
use Rattle.safl_circuit.specs.Correct.{IsResult}
use Rattle.safl_sites.specs.Plan.{Choice}
use Rattle.safl_word.proofs.Lists.{get_seam}
use Rattle.safl_sim.proofs.WordsOfNumbers.{word_bits}
use Rattle.safl_circuit.specs.Theorem.{IsCircuit}
use Rattle.safl_session.specs.Lines.{AreArguments as AreRead}
use Rattle.safl_tool.specs.CommandTasks.{RefusesSourceOf, RefusesGiven}
use Rattle.safl_tool.specs.Reporting.{HasHead, Measures}
use Rattle.safl_session.specs.Circuits.{IsMainReply}
use Rattle.safl_tool.specs.Simulating.{Simulates}
use Rattle.safl_tool.proofs.Refusing.{refuses_more}

-- nothing is given where a source, or its arguments, are refused
pub source_quiet : (name source : List ℕ) (s : Status) (line : List ℕ) → RefusesSourceOf name source s line → may_give s ≡ false
source_quiet name source s line r = ap may_give r.0

pub given_quiet : (name : List ℕ) (args : List (List ℕ)) (source : List ℕ) (s : Status) (line : List ℕ) → RefusesGiven name args source s line → may_give s ≡ false
given_quiet name args source s line r = elim r [ inl f ↦ ap may_give f.0 | inr m ↦ ap may_give m.0 ]

-- words that are read are words of the widths
pub read_widths : (widths : List ℕ) (args : List (List ℕ)) (words : List Word) → AreRead widths args words → map (λ (w : Word). w.width) words ≡ widths
read_widths [] [] [] r = refl
read_widths [] [] (v ∷ vs) r = absurd r
read_widths [] (t ∷ ts) vs r = absurd r
read_widths (w ∷ ws) [] vs r = absurd r
read_widths (w ∷ ws) (t ∷ ts) [] r = absurd r
read_widths (w ∷ ws) (t ∷ ts) (v ∷ vs) r = ap (λ x. x ∷ map (λ (w : Word). w.width) vs) (ap (λ (x : Word). x.width) r.0.is) ∙ ap (λ l. w ∷ l) (read_widths ws ts vs r.1)

pub read_words : (widths : List ℕ) (args : List (List ℕ)) (words : List Word) → AreRead widths args words → AreWordsOf words widths
read_words [] [] [] r = tt
read_words [] [] (v ∷ vs) r = absurd r
read_words [] (t ∷ ts) vs r = absurd r
read_words (w ∷ ws) [] vs r = absurd r
read_words (w ∷ ws) (t ∷ ts) [] r = absurd r
read_words (w ∷ ws) (t ∷ ts) (v ∷ vs) r = (r.0.word, ap (λ (x : Word). x.width) r.0.is, read_words ws ts vs r.1)

-- the first done is main's value
pub is_value : (C : Program) (D : Names) (P : Choice) (n : Netlist) → IsCircuit C D P n → (words : List Word) → AreWordsOf words (C.params C.main) → (limit : ℕ) (d : Done)
    (after : ℕ → ℕ) → Replies n limit (reset_state n) words d after → IsMainReply C words d
is_value C D P n circuit words are limit d after o =
    let cycles : List Valuation = o.before ++ o.last ∷ [] in
    let there : slice_get cycles d.cycle ≡ Some o.last = get_seam o.before o.last [] d.cycle o.long in
    let x = circuit.correct.behaves.only words are cycles o.call.run d.cycle o.last there o.done in
    let same : read_output n o.last (codes "result") ≡ d.result.bits = sym (ap (λ (w : Word). w.bits) o.result ∙ word_bits n o.last (output_place n.outputs (codes "result"))) in
    let y : IsResult C words (as_word (C.result C.main) d.result.bits) d.cycle = subst (λ k. IsResult C words (as_word (C.result C.main) k) d.cycle) same x in
    record {
      result = y;
      exact = λ seq. circuit.first.exact seq words are cycles o.call.run d.cycle o.last there o.done (as_word (C.result C.main) d.result.bits) y.by;
    }

pub has_value : (C : Program) (D : Names) (P : Choice) (n : Netlist) → IsCircuit C D P n → (words : List Word) → AreWordsOf words (C.params C.main) → (limit : ℕ)
    (answer : Option Done) → IsOutcome n words limit answer → IfSome answer (IsMainReply C words)
has_value C D P n circuit words are limit None o = tt
has_value C D P n circuit words are limit (Some d) o = is_value C D P n circuit words are limit d o.after o.answers

module _ (source : List ℕ) (n : Netlist) (c : IsCompiled source n) (args : List (List ℕ)) (widths : List ℕ) (are : widths ≡ argument_widths n.signals) where
  params_are : widths ≡ c.program.params c.program.main
  params_are = are ∙ c.params

  pub simulates : (words given : List Word) (limit : ℕ) (answer : Option Done) → given ≡ words → AreRead widths args words → IsOutcome n given limit answer → Simulates source args limit answer
  simulates words given limit answer e r o =
      let p : AreRead (c.program.params c.program.main) args words = subst (λ l. AreRead l args words) params_are r in
      let q : IsOutcome n words limit answer = subst (λ l. IsOutcome n l limit answer) e o in
      record {
        program = c.program;
        names = c.names;
        net = n;
        words = words;
        source_of = c.source_of;
        circuit = c.circuit;
        read = p;
        outcome = q;
        value = has_value c.program c.names c.circuit.choice n c.circuit.circuit words (read_words (c.program.params c.program.main) args words p) limit answer q;
      }

-- what a run of the circuit of a planned program says, after its head
pub measures : (source : List ℕ) (p : CheckedProgram) (n : Netlist) → IsSourceOf source p.program p.names → IsCircuitOf p.program p.names n
    → argument_widths n.signals ≡ p.program.params p.program.main → (args : List (List ℕ)) (limit : ℕ) (answer : Option Done) → GivesOutcome n args limit answer
    → (head : List ℕ) → HasHead p.program n head → Measures source args limit head answer
measures source p n of circuit params args limit answer g head begins =
    let C = p.program in
    let read : AreRead (C.params C.main) args g.words = subst (λ l. AreRead l args g.words) params g.read in
    record {
      simulates = record {
        program = C;
        names = p.names;
        net = n;
        words = g.words;
        source_of = of;
        circuit = circuit;
        read = read;
        outcome = g.outcome;
        value = has_value C p.names circuit.choice n circuit.circuit g.words (read_words (C.params C.main) args g.words read) limit answer g.outcome;
      };
      begins = begins;
    }

-- what refuses the arguments of a program refuses the source with them
pub arguments_refused : (name source : List ℕ) (C : Program) (D : Names) (args : List (List ℕ)) (widths : List ℕ) → widths ≡ C.params C.main → IsSourceOf source C D
    → (r : Refusal) → RefusesBy (RefusesArguments widths args) r → RefusesBy (RefusesGiven name args source) r
arguments_refused name source C D args widths are of r =
    refuses_more (RefusesArguments widths args) (RefusesGiven name args source)
    (λ s line h. inr (h.0, (C, D, of, subst (λ (l : List ℕ). HaveFault l args line) are h.1))) r

pub source_refused : (name source : List ℕ) (args : List (List ℕ)) (r : Refusal) → RefusesBy (RefusesSourceOf name source) r → RefusesBy (RefusesGiven name args source) r
source_refused name source args r = refuses_more (RefusesSourceOf name source) (RefusesGiven name args source) (λ s line h. inl h) r
