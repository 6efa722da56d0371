-- A source's program and its first fault, from the laws of the grammar and of checking.
use Rattle.std.proofs.Common.{◌≡◌, ℕ, ◌≤◌, List, [], ◌∷◌, Option, Some, None, ◌⊎◌, inl, inr, refl, sym, ap, ◌∙◌, subst, ⊎_elim, arith}
use Rattle.std.specs.List.{AllByRecursion}
use Rattle.std.proofs.lemmas.Option.{same_Some}
use Rattle.safl_word.specs.declared.fault.Fault.{Fault}
use Rattle.safl_term.specs.Program.{Program}
use Rattle.safl_tree.specs.Laws as grammar
use Rattle.safl_tree.specs.Source.{SpellsProgram}
use Rattle.safl_tree.specs.Tree.{Definition, depth}
use Rattle.safl_typing.specs.Forms.{Form, AreShallow, IsFormOf}
use Rattle.safl_typing.specs.Laws.{OneForm, FaultOrForm}
use Rattle.safl_typing.specs.FirstFault.{first_fault}
use Rattle.safl_typing.specs.declared.typed.CheckErr.{CheckErr}
use Rattle.safl_typing.specs.declared.typed.CheckErr.TheVariants as errors
use Rattle.safl_check.specs.Answers.{RefusesProgram}
use Rattle.safl_check.specs.Numbered.{program_in, names_in}
use Rattle.safl_term.specs.Names.{Names}
use Rattle.safl_compiler.specs.Laws.{OneProgram, ProgramOrFault, NotBoth, OneFault}
use Rattle.safl_compiler.specs.Sources.{IsSourceOf, HasFirstFault, syntax_fault, check_fault, RefusesSource}

-- ---- refusals

shallower : (ds : List Definition) → AllByRecursion (λ d. depth d.body ≤ 1100) ds → AreShallow ds
shallower [] h = tt
shallower (d ∷ ds) h = (omega (arith, h.0), shallower ds h.1)

-- a refusal of the program is one of its source
pub refuses : grammar.SourcesAreShallow → (source : List ℕ) (ds : List Definition) (e : CheckErr) → SpellsProgram source ds → RefusesProgram ds e → RefusesSource source e
refuses texts source ds (errors.Refused f) spelled h = check_fault ds spelled h.0
refuses texts source ds errors.TooDeep spelled h = h.1 (shallower ds (texts source ds spelled))
refuses texts source ds errors.NoMemory spelled h = tt

-- ---- laws

pub one_program : grammar.OneProgram → OneForm → OneProgram
one_program texts forms source C B D E s t =
    let same : s.definitions ≡ t.definitions = texts source _ _ s.spelled t.spelled in
    let form : s.form ≡ t.form = forms t.definitions s.form t.form (subst (λ (ds : List Definition). IsFormOf ds s.form) same s.is) t.is in
    (s.program ∙ ap program_in form ∙ sym t.program, s.names ∙ ap names_in form ∙ sym t.names)

abbrev Answer : List ℕ → Type 0
Answer source = ((C : Program) × (D : Names) × IsSourceOf source C D) ⊎ ((f : Fault) × HasFirstFault source f)

form_or_fault : FaultOrForm → grammar.SpelledIsPrintable → (source : List ℕ) (ds : List Definition) → SpellsProgram source ds → (o : Option Fault) → first_fault ds ≡ o → Answer source
form_or_fault forms printable source ds spelled (Some f) e = inr (f, check_fault ds spelled e)
form_or_fault forms printable source ds spelled None e =
    let (form, is) = (forms ds (printable source ds spelled).formed).0 e in
    inl (program_in form, names_in form, record { definitions = ds; spelled = spelled; form = form; is = is; program = refl; names = refl })

pub program_or_fault : grammar.ProgramOrFault → grammar.SpelledIsPrintable → FaultOrForm → ProgramOrFault
program_or_fault texts printable forms source =
    ⊎_elim
    (λ p. form_or_fault forms printable source p.0 p.1 (first_fault p.0) refl)
    (λ q. inr (q.0, syntax_fault q.1))
    (texts source)

no_fault : FaultOrForm → grammar.SpelledIsPrintable → (source : List ℕ) (ds : List Definition) (form : Form) (f : Fault) → SpellsProgram source ds → IsFormOf ds form → first_fault ds ≡ Some f → ⊥
no_fault forms printable source ds form f spelled is e =
    let none : first_fault ds ≡ None = (forms ds (printable source ds spelled).formed).1 (form, is) in
    absurd cc

pub not_both : grammar.OneProgram → grammar.NotBoth → grammar.SpelledIsPrintable → FaultOrForm → NotBoth
not_both texts apart printable forms source C D f s (syntax_fault h) = apart source _ f s.spelled h
not_both texts apart printable forms source C D f s (check_fault ds spelled e) =
    let same : s.definitions ≡ ds = texts source _ _ s.spelled spelled in
    no_fault forms printable source ds s.form f spelled (subst (λ (l : List Definition). IsFormOf l s.form) same s.is) e

pub one_fault : grammar.OneProgram → grammar.NotBoth → grammar.OneFault → OneFault
one_fault texts apart single source f g (syntax_fault h) (syntax_fault k) = single source f g h k
one_fault texts apart single source f g (syntax_fault h) (check_fault ds spelled e) = absurd (apart source ds f spelled h)
one_fault texts apart single source f g (check_fault ds spelled e) (syntax_fault h) = absurd (apart source ds g spelled h)
one_fault texts apart single source f g (check_fault ds spelled e) (check_fault es spells d) =
    same_Some f g (sym e ∙ ap first_fault (texts source ds es spelled spells) ∙ d)
