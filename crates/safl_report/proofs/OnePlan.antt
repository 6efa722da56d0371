-- A program has one plan, and so one report.
use Rattle.std.proofs.Math.Path.{fun_ext}
use Rattle.std.proofs.Common.{◌≡◌, ℕ, zero, suc, ◌+◌, ◌<◌, ◌≤◌, Bool, true, false, ◌++◌, map, refl, sym, ap, ◌∙◌, arith}
use Rattle.std.specs.Prelude.{◌↔◌}
use Rattle.std.specs.List.{concat, range_with_len}
use Rattle.safl_sites.specs.Kept.{Kept}
use Rattle.safl_sites.specs.Plan.{HasArbiter}
use Rattle.safl_report.specs.Report.{Text, calls_of, function_text, function_lines, site_text, site_report, register_line}
use Rattle.safl_report.proofs.NamedLines.{function_line, site_line, summary_lines}
use Rattle.safl_report.specs.Laws.{ReportOnce, SummaryOnce}

-- two tests of one fact
same_test : (a b : Bool) (P : Type 0) → (a ≡ true) ↔ P → (b ≡ true) ↔ P → a ≡ b
same_test true true P f g = refl
same_test true false P f g = sym (g.1 (f.0 refl))
same_test false true P f g = f.1 (g.0 refl)
same_test false false P f g = refl

-- lines that are equal at each number
same_lines : (f g : ℕ → Text) (a n : ℕ) → ((k : ℕ) → a ≤ k → k < a + n → f k ≡ g k) → concat (map f (range_with_len a n)) ≡ concat (map g (range_with_len a n))
same_lines f g a zero h = refl
same_lines f g a (suc n) h =
    ap (λ (t : Text). t ++ concat (map f (range_with_len (a + 1) n))) (h a (omega arith) (omega arith))
    ∙ ap (λ (t : Text). g a ++ t) (same_lines f g (a + 1) n (λ k least below. h k (omega arith) (omega arith)))

pub report_once : ReportOnce
report_once C D n s t p q =
    let arbiters = λ (u : ℕ). same_test (p.arbiter u) (q.arbiter u) (HasArbiter C u) (p.plan.arbiters u) (q.plan.arbiters u) in
    let keeps = λ (k : ℕ) (least : 0 < k) (most : k ≤ C.sites). same_test (p.kept k) (q.kept k) (Kept C k) (p.plan.keeps k least most) (q.plan.keeps k least most) in
    let functions = same_lines (function_line C D p.arbiter) (function_line C D q.arbiter) 0 C.functions
    (λ f least below. ap (λ (b : Bool). function_text (D.name f) (calls_of C f) b) (arbiters (C.unit f))) in
    let sites = same_lines (site_line C D p.kept) (site_line C D q.kept) 1 C.sites
    (λ k least below. ap (λ (b : Bool). site_text k (D.name (C.callee k)) (D.name (C.caller k)) b) (keeps k (omega arith) (omega arith))) in
    p.lines
    ∙ ap (λ (l : Text). (l ++ site_report C D p.kept) ++ register_line n) functions
    ∙ ap (λ (l : Text). (function_lines C D q.arbiter ++ l) ++ register_line n) sites
    ∙ sym q.lines

pub summary_once : SummaryOnce
summary_once C n s t p q =
    let arbiters : p.arbiter ≡ q.arbiter = fun_ext (λ (u : ℕ). same_test (p.arbiter u) (q.arbiter u) (HasArbiter C u) (p.plan.arbiters u) (q.plan.arbiters u)) in
    p.lines ∙ ap (λ (a : ℕ → Bool). summary_lines C a n) arbiters ∙ sym q.lines
