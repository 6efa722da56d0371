-- The program of a form is well formed, within limits, and in the order of the text.
use Rattle.safl_typing.proofs.Common.{Function, Site, shown_term, widths_of}
use Rattle.std.proofs.Common.{◌≡◌, ℕ, zero, suc, ◌+◌, ◌-◌, ◌<◌, ◌≤◌, List, [], ◌∷◌, length, map, Option, Some, None, Bool, true, false, cond, refl, sym, ap, ◌∙◌, subst, inl, inr, ◌⊎◌, ⊎_elim, arith}
use Rattle.std.specs.Prelude.{slice_get, codes}
use Rattle.std.specs.Option.{option_map}
use Rattle.std.specs.String.{string_bytes}
use Rattle.std.proofs.lemmas.Option.{slice_get_cases, slice_get_within, slice_get-map, same_Some}
use Rattle.safl_word.specs.Words.{no_word}
use Rattle.safl_word.specs.Limits.{width_max, depth_max}
use Rattle.safl_word.specs.Tokens.{IsSourceName}
use Rattle.safl_term.specs.declared.checked.Parameter as code
use Rattle.safl_term.specs.Program.{arity}
use Rattle.safl_term.specs.Terms as plain
use Rattle.safl_term.specs.WellFormed.{Spans, HasWidth, IsNumbered, IsWellFormed}
use Rattle.safl_term.specs.Checked.{CheckedProgram, IsWithinLimits, AreNamed, HasWordWidths, IsChecked, checked_of}
use Rattle.safl_term.specs.Tables as tables
use Rattle.safl_term.specs.Tables.{Tables, of_function, of_site, main_of, program_of, name_of, first_site_of}
use Rattle.safl_term.specs.Sizes as sizes
use Rattle.safl_term.proofs.HeldByChecked.{each_checked, table_nodes}
use Rattle.safl_tree.specs.Tree.{Definition, Parameter, depth}
use Rattle.safl_tree.specs.Printable.{AreFormedParameters, IsFormedDefinition, AreFormedDefinitions, IsFormedProgram}
use Rattle.safl_tree.proofs.Formed.{formed_at}
use Rattle.safl_typing.specs.Rewriting.{rewritten}
use Rattle.safl_typing.specs.Heads.{Slot, Head, params_of, head_of, heads}
use Rattle.safl_typing.specs.Forms.{shown_param, shown_function, form_of, shown_form, sites_of, all_sites, param_names, IsLast, function_names, AreShallow, IsFormOf}
use Rattle.safl_typing.specs.Ranges.{IsWide}
use Rattle.safl_typing.proofs.Formed.{width_wide, heads_wide, params_wide}
use Rattle.safl_typing.proofs.Widths.{Agrees, formed_full, has_width}
use Rattle.safl_typing.proofs.Spans.{Noted, has_spans}
use Rattle.safl_typing.proofs.Shallow.{rewritten_deep, formed_bindings, has_depth, has_short}
use Rattle.safl_typing.proofs.Limits.{no_long_let}
use Rattle.safl_typing.proofs.Units.{Steps, unit_below, unit_monotone, unit_first, unit_group}
use Rattle.safl_typing.proofs.Placing.{AreShown, At, next_first, place_at, step_at, lengths_same, sites_length, nodes_same, heads_length, AllGood, good_at, has_good, all_good, noted_from}

-- what a function that is there has, and what one has that is not
field_of : {A : Type 0} (has : Function → A) (default : A) (c : Tables) (i : ℕ) (f : Function) → slice_get c.functions i ≡ Some f → of_function has default c i ≡ has f
field_of has default c i f e = rw e refl

field_past : {A : Type 0} (has : Function → A) (default : A) (c : Tables) (i : ℕ) → slice_get c.functions i ≡ None → of_function has default c i ≡ default
field_past has default c i e = rw e refl

-- whether a function is there
there : (fs : List Function) (i : ℕ) → ((f : Function) × (slice_get fs i ≡ Some f) × (i < length fs)) ⊎ (slice_get fs i ≡ None)
there fs i = ⊎_elim (λ q. inl (q.0, q.2, q.1)) (λ q. inr q.1) (slice_get_cases fs i).1

names_shown : (ps : List code.Parameter) → map (λ (p : code.Parameter). string_bytes p.name) ps ≡ map (λ (p : Slot). p.name) (map shown_param ps)
names_shown [] = refl
names_shown (p ∷ ps) = ap (λ l. string_bytes p.name ∷ l) (names_shown ps)

widths_shown : (ps : List code.Parameter) → map (λ (p : code.Parameter). p.width) ps ≡ widths_of (map shown_param ps)
widths_shown [] = refl
widths_shown (p ∷ ps) = ap (λ l. p.width ∷ l) (widths_shown ps)

names_of_slots : (d : Definition) → map (λ (p : Slot). p.name) (params_of d) ≡ param_names d
names_of_slots d = by d.params
  where
    by : (ps : List Parameter) → map (λ (p : Slot). p.name) (map (λ (p : Parameter). record { name = p.name; width = p.width }) ps) ≡ map (λ (p : Parameter). p.name) ps
    by [] = refl
    by (p ∷ ps) = ap (λ l. p.name ∷ l) (by ps)

widths_length : (d : Definition) → length (widths_of (params_of d)) ≡ length d.params
widths_length d = by d.params
  where
    by : (ps : List Parameter) → length (widths_of (map (λ (p : Parameter). record { name = p.name; width = p.width }) ps)) ≡ length ps
    by [] = refl
    by (p ∷ ps) = ap (λ n. suc n) (by ps)

param_named : (ps : List Parameter) (i : ℕ) (name : List ℕ) → AreFormedParameters ps → slice_get (map (λ (p : Parameter). p.name) ps) i ≡ Some name → IsSourceName name
param_named [] i name h e = absurd cc
param_named (p ∷ ps) zero name h e = subst IsSourceName (same_Some p.name name e) h.0.0
param_named (p ∷ ps) (suc i) name h e = param_named ps i name h.1 e

param_wide : (ps : List Parameter) (i w : ℕ) → AreFormedParameters ps → slice_get (widths_of (map (λ (p : Parameter). record { name = p.name; width = p.width }) ps)) i ≡ Some w → IsWide w
param_wide [] i w h e = absurd cc
param_wide (p ∷ ps) zero w h e = subst IsWide (same_Some p.width w e) (width_wide p.width h.0.1)
param_wide (p ∷ ps) (suc i) w h e = param_wide ps i w h.1 e

last_name : (x : List ℕ) (ds : List Definition) (d : Definition) → IsLast x ds → slice_get ds (length ds - 1) ≡ Some d → d.name ≡ x
last_name x [] d h e = absurd h
last_name x (c ∷ []) d h e = sym (ap (λ (z : Definition). z.name) (same_Some c d e)) ∙ h
last_name x (c ∷ (b ∷ ds)) d h e =
    let q : length (c ∷ (b ∷ ds)) - 1 ≡ suc (length (b ∷ ds) - 1) = omega arith in
    last_name x (b ∷ ds) d h (subst (λ (i : ℕ). slice_get (c ∷ (b ∷ ds)) i ≡ Some d) q e)

some_last : (x : List ℕ) (ds : List Definition) → IsLast x ds → 0 < length ds
some_last x [] h = absurd h
some_last x (d ∷ ds) h = omega arith

-- ---- the program of a form

-- function i of the program, with its definition
abbrev pub Here : Tables → List Definition → ℕ → Type 0
Here c ds i = At (program_of c) (heads ds) 0 0 1 (suc (length c.sites)) ds c.functions i

-- what is known: the form, with its last site
pub record IsBased (c : Tables) (ds : List Definition) : Type 0 where
  pub formed : AreFormedDefinitions ds
  pub form : IsFormOf ds (form_of c)
  pub functions : AreShown (heads ds) 0 0 0 1 (suc (length c.sites)) ds c.functions
  pub last : form.last_site ≡ length c.sites
  pub count : length c.functions ≡ length ds
  pub some : 0 < length c.functions
  pub noted : Noted (program_of c) 1 (all_sites 0 (map shown_function c.functions))

based : (ds : List Definition) (c : Tables) → IsFormedProgram ds → IsFormOf ds (form_of c) → IsBased c ds
unfolding program_of
based ds c formed form =
    let l : suc form.last_site ≡ 1 + length (all_sites 0 (map shown_function c.functions)) = sites_length (heads ds) 0 0 0 1 (suc form.last_site) ds (map shown_function c.functions) form.functions in
    let e : form.last_site ≡ length c.sites = omega (arith, l, ap (λ (xs : List Site). length xs) form.sites) in
    let n : length c.functions ≡ length ds = lengths_same (heads ds) 0 0 0 1 (suc form.last_site) ds c.functions form.functions in
    record {
      formed = formed.formed;
      form = form;
      functions = subst (λ (z : ℕ). AreShown (heads ds) 0 0 0 1 (suc z) ds c.functions) e form.functions;
      last = e;
      count = n;
      some = omega (arith, n, some_last (codes "main") ds form.main);
      noted = subst (λ (xs : List Site). Noted (program_of c) 1 xs) form.sites (noted_from (program_of c) 1 c.sites (λ i x q.
          let r : 1 + i ≡ suc i = omega arith in
          (ap (of_site (λ (s : Site). s.caller) 0 c) r ∙ rw q refl, ap (of_site (λ (s : Site). s.callee) (main_of c) c) r ∙ rw q refl)));
    }

here : (c : Tables) (ds : List Definition) (i : ℕ) → IsBased c ds → i < length c.functions → Here c ds i
here c ds i b h = place_at (program_of c) (heads ds) 0 0 0 1 (suc (length c.sites)) ds c.functions i h b.functions b.noted

-- the fields of function i
pub record HasFields (c : Tables) (ds : List Definition) (i : ℕ) (h : Here c ds i) : Type 0 where
  pub unit : (program_of c).unit i ≡ h.unit
  pub result : (program_of c).result i ≡ h.def.width
  pub params : (program_of c).params i ≡ widths_of (params_of h.def)
  pub body : (program_of c).body i ≡ shown_term h.function.body
  pub name : name_of c i ≡ h.def.name
  pub param_names : tables.param_names c i ≡ param_names h.def
  pub first : first_site_of c i ≡ h.first
  pub next : first_site_of c (suc i) ≡ h.end

fields : (c : Tables) (ds : List Definition) (i : ℕ) (h : Here c ds i) → HasFields c ds i h
unfolding program_of name_of tables.param_names first_site_of
fields c ds i h =
    record {
      unit = field_of (λ (f : Function). f.unit) 0 c i h.function h.stands ∙ h.is.unit;
      result = field_of (λ (f : Function). f.width) 0 c i h.function h.stands ∙ h.is.width;
      params = field_of (λ (f : Function). map (λ p. p.width) f.params.items) [] c i h.function h.stands ∙ (widths_shown h.function.params.items ∙ ap (λ (l : List Slot). widths_of l) h.is.params);
      body = field_of (λ (f : Function). shown_term f.body) (plain.Const no_word) c i h.function h.stands;
      name = field_of (λ (f : Function). string_bytes f.name) [] c i h.function h.stands ∙ h.is.name;
      param_names = field_of (λ (f : Function). map (λ p. string_bytes p.name) f.params.items) [] c i h.function h.stands ∙
          (names_shown h.function.params.items ∙ (ap (λ (l : List Slot). map (λ (p : Slot). p.name) l) h.is.params ∙ names_of_slots h.def));
      first = field_of (λ (f : Function). f.first_site) (suc (length c.sites)) c i h.function h.stands ∙ h.is.first_site;
      next = h.next;
    }

-- the heads are those of the program's functions
agrees : (c : Tables) (ds : List Definition) → IsBased c ds → Agrees (program_of c) (heads ds)
unfolding program_of
agrees c ds b i hd e =
    let l : i < length c.functions = omega (arith, slice_get_within (heads ds) i hd e, heads_length 0 0 ds, b.count) in
    let h = here c ds i b l in
    let f = fields c ds i h in
    let q : head_of h.unit h.def ≡ hd = same_Some _ hd (sym h.head ∙ e) in
    record {
      inside = l;
      params = f.params ∙ ap (λ (z : Head). widths_of z.params) q;
      result = f.result ∙ ap (λ (z : Head). z.width) q;
      unit = f.unit ∙ ap (λ (z : Head). z.unit) q;
    }

-- ---- groups

zero_unit : (b : Bool) → cond {A = ℕ} b 0 0 ≡ 0
zero_unit true = refl
zero_unit false = refl

first_head_unit : (ds : List Definition) (hd : Head) → slice_get (heads ds) 0 ≡ Some hd → hd.unit ≡ 0
first_head_unit [] hd e = absurd cc
first_head_unit (d ∷ ds) hd e = sym (ap (λ (z : Head). z.unit) (same_Some _ hd e)) ∙ zero_unit d.joined

first_unit : (c : Tables) (ds : List Definition) → IsBased c ds → (program_of c).unit 0 ≡ 0
first_unit c ds b =
    let h = here c ds 0 b b.some in
    (fields c ds 0 h).unit ∙ first_head_unit ds (head_of h.unit h.def) h.head

steps : (c : Tables) (ds : List Definition) → IsBased c ds → Steps (program_of c).unit (program_of c).result (length c.functions)
unfolding program_of
steps c ds b i lt =
    let l : i < length c.functions = omega (arith, lt) in
    let h = here c ds i b l in
    let g = here c ds (suc i) b lt in
    let f = fields c ds i h in
    let fg = fields c ds (suc i) g in
    ⊎_elim
    (λ q. inl (fg.unit ∙ (sym g.is.unit ∙ (q.0 ∙ (h.is.unit ∙ sym f.unit))), fg.result ∙ (sym g.is.width ∙ (q.1 ∙ (h.is.width ∙ sym f.result)))))
    (λ q. inr (fg.unit ∙ (sym g.is.unit ∙ (q ∙ omega arith))))
    (step_at (heads ds) 0 0 0 1 (suc (length c.sites)) ds c.functions i h.function g.function b.functions h.stands g.stands)

shallow_at : (ds : List Definition) (i : ℕ) (d : Definition) → AreShallow ds → slice_get ds i ≡ Some d → depth d.body ≤ depth_max
shallow_at [] i d h e = absurd cc
shallow_at (x ∷ ds) zero d h e = subst (λ (z : Definition). depth z.body ≤ depth_max) (same_Some x d e) h.0
shallow_at (x ∷ ds) (suc i) d h e = shallow_at ds i d h.1 e

module _ (c : Tables) (ds : List Definition) (b : IsBased c ds) (shallow : AreShallow ds) where
  below : (i : ℕ) → i < length c.functions → (program_of c).unit i ≤ i
  below = unit_below (program_of c).unit (program_of c).result (length c.functions) (first_unit c ds b) (steps c ds b)

  -- the unit of a function that is not there
  past_unit : (i : ℕ) → slice_get c.functions i ≡ None → (program_of c).unit i ≡ 0
  unfolding program_of
  past_unit i e = field_past (λ (f : Function). f.unit) 0 c i e

  -- ---- bodies

  body_spans : (i : ℕ) (h : Here c ds i) → Spans (program_of c) i true h.first h.end ((program_of c).body i)
  body_spans i h =
      let f = fields c ds i h in
      let z : 0 + i ≡ i = omega arith in
      subst (λ (t : plain.Term). Spans (program_of c) i true h.first h.end t) (sym f.body)
      (has_spans (program_of c) i (record { heads = heads ds; unit = h.unit }) (agrees c ds b) f.unit (params_of h.def) true h.first h.end
      (rewritten h.def.body) h.def.width (shown_term h.function.body) h.is.body
      (subst (λ (g : ℕ). Noted (program_of c) h.first (sites_of g (shown_term h.function.body))) z h.noted))

  body_width : (i : ℕ) (h : Here c ds i) → HasWidth (program_of c) ((program_of c).params i) ((program_of c).body i) ((program_of c).result i)
  body_width i h =
      let f = fields c ds i h in
      let d : IsFormedDefinition h.def = formed_at ds i h.def b.formed h.defined in
      let w : HasWidth (program_of c) (widths_of (params_of h.def)) (shown_term h.function.body) h.def.width =
      has_width (program_of c) (record { heads = heads ds; unit = h.unit }) (params_of h.def) true h.first h.end (rewritten h.def.body) h.def.width
      (shown_term h.function.body) (agrees c ds b) (heads_wide 0 0 ds b.formed) (params_wide h.def.params d.1) (formed_full h.def.body d.3) h.is.body in
      subst (λ (l : List ℕ). HasWidth (program_of c) l ((program_of c).body i) ((program_of c).result i)) (sym f.params)
      (subst (λ (t : plain.Term). HasWidth (program_of c) (widths_of (params_of h.def)) t ((program_of c).result i)) (sym f.body)
      (subst (λ (n : ℕ). HasWidth (program_of c) (widths_of (params_of h.def)) (shown_term h.function.body) n) (sym f.result) w))

  -- an interval for each body
  abbrev pub BodyAt : ℕ → Type 0
  BodyAt i = (lo : ℕ) × (hi : ℕ) × (1 ≤ lo) × Spans (program_of c) i true lo hi ((program_of c).body i) × (hi ≤ suc (length c.sites))

  past_spans : (i : ℕ) → slice_get c.functions i ≡ None → Spans (program_of c) i true 1 1 ((program_of c).body i)
  unfolding program_of
  past_spans i e = subst (λ (t : plain.Term). Spans (program_of c) i true 1 1 t) (sym (field_past (λ (f : Function). shown_term f.body) (plain.Const no_word) c i e)) refl

  body_at : (i : ℕ) → BodyAt i
  body_at i = ⊎_elim
      (λ q. let h = here c ds i b q.2 in (h.first, h.end, h.from, body_spans i h, h.until))
      (λ e. (1, 1, omega arith, past_spans i e, omega arith))
      (there c.functions i)

  -- ---- sites

  good_sites : AllGood (program_of c) c.sites
  unfolding program_of
  good_sites = subst (λ (xs : List Site). AllGood (program_of c) xs) (sym b.form.sites)
      (all_good (program_of c) 0 c.functions (λ i f e.
      let l : i < length c.functions = slice_get_within c.functions i f e in
      let h = here c ds i b l in
      let q : h.function ≡ f = same_Some h.function f (sym h.stands ∙ e) in
      let z : i ≡ 0 + i = omega arith in
      subst (λ (g : ℕ). AllGood (program_of c) (sites_of g (shown_term f.body))) z (subst (λ (z : Function). AllGood (program_of c) (sites_of i (shown_term z.body))) q
      (has_good (program_of c) i (record { heads = heads ds; unit = h.unit }) l (agrees c ds b) (fields c ds i h).unit (params_of h.def) true h.first
      h.end (rewritten h.def.body) h.def.width (shown_term h.function.body) h.is.body))))

  site_good : (k : ℕ) → 0 < k → k ≤ length c.sites → ((program_of c).caller k < length c.functions) × ((program_of c).callee k < length c.functions) ×
      ((program_of c).unit ((program_of c).callee k) < (program_of c).unit ((program_of c).caller k))
  unfolding program_of
  site_good zero some most = absurd (omega (arith, some))
  site_good (suc k) some most = ⊎_elim
      (λ q. let g = good_at (program_of c) c.sites k q.0 good_sites q.2 in
      rw q.2 (g.caller, g.callee, g.earlier))
      (λ q. absurd (omega (arith, q.0, most)))
      (slice_get_cases c.sites k).1

  -- ---- what a program's form needs

  numbered : IsNumbered (program_of c) (program_of c).functions
  unfolding program_of
  numbered = record {
    bodies = λ i. let q = body_at i in (q.0, q.1, q.2, q.3);
    below = λ i. ⊎_elim (λ q. omega (arith, below i q.2, q.2)) (λ e. omega (arith, past_unit i e, b.some)) (there c.functions i);
    top = λ i. ⊎_elim (λ q. unit_monotone (program_of c).unit (program_of c).result (length c.functions) (first_unit c ds b) (steps c ds b) i
        (main_of c) (omega (arith, q.2)) (omega (arith, b.some))) (λ e. omega (arith, past_unit i e)) (there c.functions i);
  }

  bounded : (i : ℕ) → (body_at i).1 ≤ suc (length c.sites)
  bounded i = (body_at i).4

  well_formed : IsWellFormed (program_of c)
  unfolding program_of numbered
  well_formed = record {
    numbered = numbered;
    main = refl;
    main_in = omega (arith, b.some);
    first = λ i l. let q = unit_first (program_of c).unit (program_of c).result (length c.functions) (first_unit c ds b) (steps c ds b) i l in (below i l, q.0, q.1);
    sites = λ i l. bounded i;
    calls = site_good;
    widths = λ i l. body_width i (here c ds i b l);
  }

  -- ---- limits, names and widths

  few_params : (i : ℕ) → arity (program_of c) i ≤ 16
  unfolding program_of
  few_params i = ⊎_elim
      (λ q. let h = here c ds i b q.2 in
      omega (arith, ap (λ (l : List ℕ). length l) (fields c ds i h).params, widths_length h.def, h.is.few_params))
      (λ e. omega (arith, ap (λ (l : List ℕ). length l) (field_past (λ (f : Function). map (λ p. p.width) f.params.items) [] c i e)))
      (there c.functions i)

  past_body : (i : ℕ) → slice_get c.functions i ≡ None → (program_of c).body i ≡ plain.Const no_word
  unfolding program_of
  past_body i e = field_past (λ (f : Function). shown_term f.body) (plain.Const no_word) c i e

  short_lets : (i : ℕ) → sizes.HasShortLets ((program_of c).body i)
  short_lets i = ⊎_elim
      (λ q. let h = here c ds i b q.2 in
      subst (λ (t : plain.Term). sizes.HasShortLets t) (sym (fields c ds i h).body)
      (has_short (record { heads = heads ds; unit = h.unit }) (params_of h.def) true h.first h.end (rewritten h.def.body) h.def.width
      (shown_term h.function.body) h.is.body (no_long_let (rewritten h.def.body) h.is.short_lets) (formed_bindings h.def.body (formed_at ds i h.def b.formed h.defined).3)))
      (λ e. subst (λ (t : plain.Term). sizes.HasShortLets t) (sym (past_body i e)) tt)
      (there c.functions i)

  few_levels : (i : ℕ) → sizes.depth ((program_of c).body i) ≤ depth_max
  few_levels i = ⊎_elim
      (λ q. let h = here c ds i b q.2 in
      let e = has_depth (record { heads = heads ds; unit = h.unit }) (params_of h.def) true h.first h.end (rewritten h.def.body) h.def.width (shown_term h.function.body) h.is.body in
      omega (arith, ap (λ (t : plain.Term). sizes.depth t) (fields c ds i h).body, e, rewritten_deep h.def.body (formed_at ds i h.def b.formed h.defined).3, shallow_at ds i h.def shallow h.defined))
      (λ e. omega (arith, ap (λ (t : plain.Term). sizes.depth t) (past_body i e)))
      (there c.functions i)

  limited : IsWithinLimits (program_of c)
  unfolding program_of
  limited = record {
    functions = omega (arith, b.count, b.form.few_functions);
    params = few_params;
    sites = omega (arith, b.last, b.form.few_sites);
    nodes = omega (arith, table_nodes c, nodes_same (heads ds) 0 0 0 1 (suc (length c.sites)) ds c.functions b.functions, b.form.few_nodes);
    bindings = short_lets;
    depth = few_levels;
  }

  named : (i : ℕ) → i < length c.functions → IsSourceName (name_of c i)
  named i l = let h = here c ds i b l in subst IsSourceName (sym (fields c ds i h).name) (formed_at ds i h.def b.formed h.defined).0

  name_at : (i : ℕ) (h : Here c ds i) → slice_get (function_names ds) i ≡ Some h.def.name
  name_at i h = slice_get-map (λ (d : Definition). d.name) ds i ∙ ap (λ (o : Option Definition). option_map (λ (d : Definition). d.name) o) h.defined

  names_differ : (i j : ℕ) → i < length c.functions → j < length c.functions → name_of c i ≡ name_of c j → i ≡ j
  names_differ i j li lj e =
      let h = here c ds i b li in
      let g = here c ds j b lj in
      let q : h.def.name ≡ g.def.name = sym (fields c ds i h).name ∙ (e ∙ (fields c ds j g).name) in
      b.form.functions_differ i j g.def.name (name_at i h ∙ ap (λ (x : List ℕ). Some x) q) (name_at j g)

  main_named : name_of c (main_of c) ≡ codes "main"
  main_named =
      let h = here c ds (main_of c) b (omega (arith, b.some)) in
      let e : length c.functions - 1 ≡ length ds - 1 = omega (arith, b.count) in
      (fields c ds (main_of c) h).name ∙ last_name (codes "main") ds h.def b.form.main (subst (λ (i : ℕ). slice_get ds i ≡ Some h.def) e h.defined)

  past_names : (i : ℕ) → slice_get c.functions i ≡ None → tables.param_names c i ≡ []
  unfolding tables.param_names
  past_names i e = field_past (λ (f : Function). map (λ p. string_bytes p.name) f.params.items) [] c i e

  nothing_there : {A P : Type 0} (xs : List A) (i : ℕ) (x : A) → xs ≡ [] → slice_get xs i ≡ Some x → P
  nothing_there [] i x e q = absurd cc
  nothing_there (y ∷ ys) i x e q = absurd cc

  params_named : (f i : ℕ) (name : List ℕ) → slice_get (tables.param_names c f) i ≡ Some name → IsSourceName name
  params_named f i name e = ⊎_elim
      (λ q. let h = here c ds f b q.2 in
      param_named h.def.params i name (formed_at ds f h.def b.formed h.defined).1 (subst (λ (l : List (List ℕ)). slice_get l i ≡ Some name) (fields c ds f h).param_names e))
      (λ q. nothing_there (tables.param_names c f) i name (past_names f q) e)
      (there c.functions f)

  params_differ : (f i j : ℕ) (name : List ℕ) → slice_get (tables.param_names c f) i ≡ Some name → slice_get (tables.param_names c f) j ≡ Some name → i ≡ j
  params_differ f i j name e g = ⊎_elim
      (λ q. let h = here c ds f b q.2 in
      let p = (fields c ds f h).param_names in
      h.is.params_differ i j name (subst (λ (l : List (List ℕ)). slice_get l i ≡ Some name) p e) (subst (λ (l : List (List ℕ)). slice_get l j ≡ Some name) p g))
      (λ q. nothing_there (tables.param_names c f) i name (past_names f q) e)
      (there c.functions f)

  all_named : AreNamed (checked_of c)
  unfolding program_of
  all_named = record { of_functions = named; of_main = main_named; of_functions_differ = names_differ; of_params = params_named; of_params_differ = params_differ }

  result_wide : (f : ℕ) → f < length c.functions → (1 ≤ (program_of c).result f) × ((program_of c).result f ≤ width_max)
  result_wide f l =
      let h = here c ds f b l in
      let r = (fields c ds f h).result in
      let w = width_wide h.def.width (formed_at ds f h.def b.formed h.defined).2 in
      (omega (arith, r, w.some), omega (arith, r, w.bounded))

  param_has_width : (f i w : ℕ) → slice_get ((program_of c).params f) i ≡ Some w → (1 ≤ w) × (w ≤ width_max)
  unfolding program_of
  param_has_width f i w e = ⊎_elim
      (λ q. let h = here c ds f b q.2 in
      let r = param_wide h.def.params i w (formed_at ds f h.def b.formed h.defined).1 (subst (λ (l : List ℕ). slice_get l i ≡ Some w) (fields c ds f h).params e) in
      (r.some, r.bounded))
      (λ q. nothing_there ((program_of c).params f) i w (field_past (λ (f : Function). map (λ p. p.width) f.params.items) [] c f q) e)
      (there c.functions f)

  word_widths : HasWordWidths (program_of c)
  unfolding program_of
  word_widths = record { results = result_wide; params = param_has_width }

  first_is : first_site_of c 0 ≡ 1
  unfolding first_site_of
  first_is = next_first (heads ds) 0 0 0 1 (suc (length c.sites)) ds c.functions b.functions

  own_sites : (f : ℕ) → f < length c.functions → Spans (program_of c) f true (first_site_of c f) (first_site_of c (suc f)) ((program_of c).body f)
  own_sites f l =
      let h = here c ds f b l in
      let q = fields c ds f h in
      subst (λ (z : ℕ). Spans (program_of c) f true z (first_site_of c (suc f)) ((program_of c).body f)) (sym q.first)
      (subst (λ (z : ℕ). Spans (program_of c) f true h.first z ((program_of c).body f)) (sym q.next) (body_spans f h))

  is_checked : IsChecked (checked_of c)
  unfolding program_of
  is_checked = record {
    formed = well_formed;
    widths = word_widths;
    limits = limited;
    groups = unit_group (program_of c).unit (program_of c).result (length c.functions) (first_unit c ds b) (steps c ds b);
    first_site = first_is;
    own_sites = own_sites;
    names = all_named;
  }

tables_checked : (ds : List Definition) (t : Tables) → IsFormedProgram ds → AreShallow ds → IsFormOf ds (form_of t) → IsChecked (checked_of t)
tables_checked ds t formed shallow form = is_checked t ds (based ds t formed form) shallow

pub form_checked : (ds : List Definition) (c : CheckedProgram) → IsFormedProgram ds → AreShallow ds → IsFormOf ds (shown_form c) → IsChecked c
form_checked ds = each_checked (λ c. IsFormedProgram ds → AreShallow ds → IsFormOf ds (shown_form c) → IsChecked c) (tables_checked ds)
