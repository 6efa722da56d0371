-- A source that is reshaped.
use Rattle.safl_tool.proofs.Common.{Given, OneProgram, Program, Refusal, RefusesBy, Status, may_give, only_writes, source_max}
use Rattle.std.proofs.Common.{◌≡◌, ℕ, ◌<◌, ◌≤◌, List, length, refl, ap, subst, ◌∙◌, arith, inl, inr, codes, false}
use Rattle.safl_tree.specs.Tree.{Definition}
use Rattle.safl_tree.specs.Source.{SpellsProgram}
use Rattle.safl_tree.specs.Printed.{printed}
use Rattle.safl_tree.specs.Printable.{IsPrintable, AllKeepLevels}
use Rattle.safl_tree.specs.Laws.{OneProgram as OneTree}
use Rattle.safl_tree.proofs.PrintedPrograms.{printed_spells}
use Rattle.safl_typing.specs.Forms.{Form, IsFormOf, HasForm}
use Rattle.safl_check.specs.Numbered.{program_in, names_in}
use Rattle.safl_reshape.specs.declared.error.ReshapeErr.{ReshapeErr}
use Rattle.safl_reshape.specs.declared.error.ReshapeErr.TheVariants as errors
use Rattle.safl_reshape.specs.Laws.{PrintedKeepsForm}
use Rattle.safl_reshape.specs.Limits.{KeepsLimits}
use Rattle.safl_reshape.specs.Reshaped.{copied, unfolded, is_recursive}
use Rattle.safl_reshape.specs.Refusals.{CopyRefused, UnfoldingRefused, RefusesCopy, RefusesUnfolding, MayCopy, MayUnfold, IsCopied, IsUnfolded}
use Rattle.safl_reshape.specs.Refusals.{PassesLimit, is_grouped, is_taken, name_for}
use Rattle.safl_reshape.proofs.LevelsUnplaced.{spelled_keeps}
use Rattle.safl_compiler.specs.Sources.{HasFewSites}
use Rattle.safl_tool.specs.CommandTasks.{RefusesSourceOf, RefusesReshaping}
use Rattle.safl_word.proofs.Lexemes.{clash}
use Rattle.safl_tool.specs.Lines.{site_line}
use Rattle.safl_tool.specs.Reshaping.{Reshaping, NoText, NoCopy, NoUnfolding, IsUnshaped, IsReshapable, GivesReshaped, limit_text, HasReason, TellsReason, TellsLong}
use Rattle.safl_task.specs.declared.status.Status.TheVariants as status
use Rattle.safl_tool.proofs.Refusing.{refuses_more}

module _ (r : Reshaping) (name : List ℕ) (site : ℕ) (source : List ℕ) where
  pub source_unshaped : (x : Refusal) → RefusesBy (RefusesSourceOf name source) x → RefusesBy (RefusesReshaping r name site source) x
  source_unshaped x = refuses_more (RefusesSourceOf name source) (RefusesReshaping r name site source) (λ s line h. inl h) x

  module _ (ds : List Definition) (spelled : SpellsProgram source ds) (form : HasForm ds) where
    for_reason : (reason : List ℕ) → r.Refuses (program_in form.0) ds reason → (s : Status) (line : List ℕ) → s ≡ status.ReshapeRefused → line ≡ site_line site reason
        → IsUnshaped r site source s line
    for_reason reason why s line h e =
        (h, program_in form.0, names_in form.0, record { definitions = ds; spelled = spelled; form = form.0; is = form.1; program = refl; names = refl }, reason, why, e)

    pub unshaped : (e : ReshapeErr) → ((text : List ℕ) → HasReason e text → r.Refuses (program_in form.0) ds text)
        → (x : Refusal) → RefusesBy (TellsReason site e) x → RefusesBy (RefusesReshaping r name site source) x
    unshaped e why x = refuses_more (TellsReason site e) (RefusesReshaping r name site source) (λ s line h. inr (for_reason h.1 (why h.1 h.2) s line h.0 h.3)) x

    pub too_long : (es : List Definition) → (source_max < length (printed es) → r.Refuses (program_in form.0) ds (codes "text too long"))
        → (x : Refusal) → RefusesBy (TellsLong site (printed es)) x → RefusesBy (RefusesReshaping r name site source) x
    too_long es why x =
        refuses_more (TellsLong site (printed es)) (RefusesReshaping r name site source) (λ s line h. inr (for_reason (codes "text too long") (why h.1) s line h.0 h.2)) x

    pub reshaped_given : PrintedKeepsForm → (es : List Definition) → IsPrintable es → es ≡ r.reshaped (program_in form.0) ds
        → ((reason : List ℕ) → r.Refuses (program_in form.0) ds reason → ⊥)
        → ((c : Form) → IsFormOf ds c → (e : Form) × IsFormOf es e × r.Keeps (program_in c) (program_in e))
        → (g : Given) → g ≡ only_writes (printed es) → GivesReshaped r source g
    reshaped_given keeps es printable is passes kept g e =
        let f = kept form.0 form.1 in
        let t = keeps es f.0 printable f.1 in
        record {
          from = record {
            program = program_in form.0;
            names = names_in form.0;
            source_of = record { definitions = ds; spelled = spelled; form = form.0; is = form.1; program = refl; names = refl };
            passes = passes;
          };
          reshaped = es;
          is_reshaped = is;
          after = program_in f.0;
          names_after = names_in f.0;
          accepted = record { definitions = t.0; spelled = t.1; form = f.0; is = t.3; program = refl; names = refl };
          keeps = f.2;
          is = e;
        }

-- a number of a site that is too large for any program
module _ (ds : List Definition) (few : HasFewSites ds) (site : ℕ) (above : 4294967295 < site) where
  pub no_copy : CopyRefused ds site errors.NoSite
  no_copy c f h = let a = h.to in let b = few c f in omega (arith, a, b, above)

  pub no_unfolding : UnfoldingRefused ds site errors.NoSite
  no_unfolding c f h = let a = h.to in let b = few c f in omega (arith, a, b, above)

-- ---- the text

limit_reason : (es : List Definition) (i : ℕ) (text : List ℕ) → PassesLimit es i → text ≡ limit_text i → NoText es text
limit_reason es i text (inl x) h = inl (x.1, h ∙ ap limit_text x.0)
limit_reason es i text (inr (inl y)) h = let a = y.1 in inr ((λ l. omega (arith, a, l)), inl (y.2, h ∙ ap limit_text y.0))
limit_reason es i text (inr (inr z)) h =
    let a = z.1 in
    let b = z.2 in
    inr ((λ l. omega (arith, a, l)), inr ((λ l. omega (arith, b, l)), inl (z.3, h ∙ ap limit_text z.0)))

deep_reason : (es : List Definition) (text : List ℕ) → KeepsLimits es → (AllKeepLevels es → ⊥) → text ≡ codes "nesting too deep" → NoText es text
deep_reason es text k deep h =
    let a = k.functions in
    let b = k.sites in
    let d = k.nodes in
    inr ((λ l. omega (arith, a, l)), inr ((λ l. omega (arith, b, l)), inr ((λ l. omega (arith, d, l)), inl ((λ s. deep (spelled_keeps es s)), h))))

long_reason : (es : List Definition) → KeepsLimits es → IsPrintable es → source_max < length (printed es) → NoText es (codes "text too long")
long_reason es k printable above =
    let a = k.functions in
    let b = k.sites in
    let d = k.nodes in
    inr ((λ l. omega (arith, a, l)), inr ((λ l. omega (arith, b, l)), inr ((λ l. omega (arith, d, l)), inr ((λ f. f (printed_spells es printable)), inl (above, refl)))))

text_passes : (es : List Definition) (reason : List ℕ) → KeepsLimits es → IsPrintable es → length (printed es) ≤ source_max → NoText es reason → ⊥
text_passes es reason k printable short (inl x) = let a = k.functions in let b = x.0 in omega (arith, a, b)
text_passes es reason k printable short (inr (n, inl x)) = let a = k.sites in let b = x.0 in omega (arith, a, b)
text_passes es reason k printable short (inr (n, inr (m, inl x))) = let a = k.nodes in let b = x.0 in omega (arith, a, b)
text_passes es reason k printable short (inr (n, inr (m, inr (o, inl x)))) = x.0 (printed_spells es printable)
text_passes es reason k printable short (inr (n, inr (m, inr (o, inr (p, inl x))))) = let b = x.0 in omega (arith, short, b)
text_passes es reason k printable short (inr (n, inr (m, inr (o, inr (p, inr x))))) = x.1

-- ---- a copy

may_copy : (C : Program) (ds : List Definition) (k : ℕ) (text : List ℕ) → MayCopy C ds k → NoText (copied ds k (C.callee k)) text → NoCopy k C ds text
may_copy C ds k text m h =
    let a = m.short in
    inr (
      (λ n. n m.site),
      inr (
        (λ g. clash (is_grouped ds (C.callee k)) g m.alone),
        inr (
          (λ l. omega (arith, a, l)),
          inr ((λ t. clash (is_taken ds (name_for ds k (C.callee k))) t m.free), h),
        ),
      ),
    )

copy_reason : (C : Program) (ds : List Definition) (k : ℕ) (e : ReshapeErr) (text : List ℕ) → RefusesCopy C ds k e → HasReason e text → NoCopy k C ds text
copy_reason C ds k errors.NoSite text q h = inl (q, h)
copy_reason C ds k errors.Grouped text q h = inr ((λ n. n q.0), inl (q.1, h))
copy_reason C ds k errors.Recursive text q h = absurd q
copy_reason C ds k errors.NameLong text q h = inr ((λ n. n q.0), inr ((λ g. clash (is_grouped ds (C.callee k)) g q.1), inl (q.2, h)))
copy_reason C ds k errors.NameTaken text q h =
    let a = q.2 in
    inr ((λ n. n q.0), inr ((λ g. clash (is_grouped ds (C.callee k)) g q.1), inr ((λ l. omega (arith, a, l)), inl (q.3, h))))
copy_reason C ds k (errors.Limit i) text q h = may_copy C ds k text q.0 (limit_reason (copied ds k (C.callee k)) i text q.1 h)
copy_reason C ds k errors.TooDeep text q h = may_copy C ds k text q.0 (deep_reason (copied ds k (C.callee k)) text q.1 q.2 h)
copy_reason C ds k errors.NoMemory text q h = absurd h

copy_passes : (C : Program) (ds : List Definition) (k : ℕ) (reason : List ℕ) → MayCopy C ds k
    → ((text : List ℕ) → NoText (copied ds k (C.callee k)) text → ⊥) → NoCopy k C ds reason → ⊥
copy_passes C ds k reason m f (inl x) = x.0 m.site
copy_passes C ds k reason m f (inr (a, inl x)) = clash (is_grouped ds (C.callee k)) x.0 m.alone
copy_passes C ds k reason m f (inr (a, inr (b, inl x))) = let u = m.short in let w = x.0 in omega (arith, u, w)
copy_passes C ds k reason m f (inr (a, inr (b, inr (c, inl x)))) = clash (is_taken ds (name_for ds k (C.callee k))) x.0 m.free
copy_passes C ds k reason m f (inr (a, inr (b, inr (c, inr x)))) = f reason x.1

-- ---- an unfolding

may_unfold : (C : Program) (ds : List Definition) (k : ℕ) (text : List ℕ) → MayUnfold C ds k → NoText (unfolded ds k) text → NoUnfolding k C ds text
may_unfold C ds k text m h = inr ((λ n. n m.site), inr ((λ g. clash (is_recursive ds (C.callee k)) g m.alone), h))

unfolding_reason : (C : Program) (ds : List Definition) (k : ℕ) (e : ReshapeErr) (text : List ℕ) → RefusesUnfolding C ds k e → HasReason e text → NoUnfolding k C ds text
unfolding_reason C ds k errors.NoSite text q h = inl (q, h)
unfolding_reason C ds k errors.Grouped text q h = absurd q
unfolding_reason C ds k errors.Recursive text q h = inr ((λ n. n q.0), inl (q.1, h))
unfolding_reason C ds k errors.NameLong text q h = absurd q
unfolding_reason C ds k errors.NameTaken text q h = absurd q
unfolding_reason C ds k (errors.Limit i) text q h = may_unfold C ds k text q.0 (limit_reason (unfolded ds k) i text q.1 h)
unfolding_reason C ds k errors.TooDeep text q h = may_unfold C ds k text q.0 (deep_reason (unfolded ds k) text q.1 q.2 h)
unfolding_reason C ds k errors.NoMemory text q h = absurd h

unfolding_passes : (C : Program) (ds : List Definition) (k : ℕ) (reason : List ℕ) → MayUnfold C ds k
    → ((text : List ℕ) → NoText (unfolded ds k) text → ⊥) → NoUnfolding k C ds reason → ⊥
unfolding_passes C ds k reason m f (inl x) = x.0 m.site
unfolding_passes C ds k reason m f (inr (a, inl x)) = clash (is_recursive ds (C.callee k)) x.0 m.alone
unfolding_passes C ds k reason m f (inr (a, inr x)) = f reason x.1

-- ---- what the code gives and refuses

module _ (ds : List Definition) (form : HasForm ds) (site : ℕ) where
  pub copy_refused : (e : ReshapeErr) → CopyRefused ds site e → (text : List ℕ) → HasReason e text → NoCopy site (program_in form.0) ds text
  copy_refused e why text h = copy_reason (program_in form.0) ds site e text (why form.0 form.1) h

  pub unfolding_refused : (e : ReshapeErr) → UnfoldingRefused ds site e → (text : List ℕ) → HasReason e text → NoUnfolding site (program_in form.0) ds text
  unfolding_refused e why text h = unfolding_reason (program_in form.0) ds site e text (why form.0 form.1) h

  module _ (es : List Definition) where
    pub copy_is : IsCopied ds site es → es ≡ copied ds site ((program_in form.0).callee site)
    copy_is is = (is form.0 form.1).3

    pub copy_long : IsPrintable es → IsCopied ds site es → source_max < length (printed es) → NoCopy site (program_in form.0) ds (codes "text too long")
    copy_long printable is above =
        let g = is form.0 form.1 in
        may_copy (program_in form.0) ds site (codes "text too long") g.0
        (subst (λ (x : List Definition). NoText x (codes "text too long")) g.3 (long_reason es g.1 printable above))

    pub copy_given : IsPrintable es → IsCopied ds site es → length (printed es) ≤ source_max → (reason : List ℕ) → NoCopy site (program_in form.0) ds reason → ⊥
    copy_given printable is short reason h =
        let g = is form.0 form.1 in
        copy_passes (program_in form.0) ds site reason g.0
        (subst (λ (x : List Definition). (text : List ℕ) → NoText x text → ⊥) g.3 (λ text q. text_passes es text g.1 printable short q)) h

    pub unfolding_is : IsUnfolded ds site es → es ≡ unfolded ds site
    unfolding_is is = (is form.0 form.1).3

    pub unfolding_long : IsPrintable es → IsUnfolded ds site es → source_max < length (printed es) → NoUnfolding site (program_in form.0) ds (codes "text too long")
    unfolding_long printable is above =
        let g = is form.0 form.1 in
        may_unfold (program_in form.0) ds site (codes "text too long") g.0
        (subst (λ (x : List Definition). NoText x (codes "text too long")) g.3 (long_reason es g.1 printable above))

    pub unfolding_given : IsPrintable es → IsUnfolded ds site es → length (printed es) ≤ source_max → (reason : List ℕ) → NoUnfolding site (program_in form.0) ds reason → ⊥
    unfolding_given printable is short reason h =
        let g = is form.0 form.1 in
        unfolding_passes (program_in form.0) ds site reason g.0
        (subst (λ (x : List Definition). (text : List ℕ) → NoText x text → ⊥) g.3 (λ text q. text_passes es text g.1 printable short q)) h

-- ---- what is promised

-- what can be reshaped is not refused
pub reshapable_not_refused : OneTree → OneProgram → (r : Reshaping) (site : ℕ) (source : List ℕ) (s : Status) (line : List ℕ)
    → IsReshapable r source → IsUnshaped r site source s line → ⊥
reshapable_not_refused trees once r site source s line k (h, C, D, there, reason, why, e) =
    let same : there.definitions ≡ k.source_of.definitions = trees source there.definitions k.source_of.definitions there.spelled k.source_of.spelled in
    let program : C ≡ k.program = (once source C k.program D k.names there k.source_of).0 in
    k.passes reason
    (subst (λ (x : Program). r.Refuses x k.source_of.definitions reason) program (subst (λ (x : List Definition). r.Refuses C x reason) same why))

-- nothing is given where the source, or its reshaping, is refused
pub reshaping_quiet : (r : Reshaping) (name : List ℕ) (site : ℕ) (source : List ℕ) (s : Status) (line : List ℕ) → RefusesReshaping r name site source s line → may_give s ≡ false
reshaping_quiet r name site source s line h = elim h [ inl f ↦ ap may_give f.0 | inr u ↦ ap may_give u.0 ]
