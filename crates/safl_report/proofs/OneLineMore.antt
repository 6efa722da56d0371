-- One line more.
use Rattle.std.proofs.Common.{◌≡◌, ℕ, Bool, [], ◌++◌, length, ap, ◌∙◌}
use Rattle.safl_net.specs.Netlist.{Netlist}
use Rattle.safl_report.specs.Report.{Text, function_text, site_text, registers, bits_of, register_text, register_line}

-- lines of equal parts
pub same_function : (a b : Text) (j k : ℕ) (x y : Bool) → a ≡ b → j ≡ k → x ≡ y → function_text a j x ≡ function_text b k y
same_function a b j k x y p q r = ap (λ (n : Text). function_text n j x) p ∙ ap (λ (m : ℕ). function_text b m x) q ∙ ap (λ (z : Bool). function_text b k z) r

pub same_site : (k : ℕ) (a b c d : Text) (x y : Bool) → a ≡ b → c ≡ d → x ≡ y → site_text k a c x ≡ site_text k b d y
same_site k a b c d x y p q r = ap (λ (n : Text). site_text k n c x) p ∙ ap (λ (m : Text). site_text k b m x) q ∙ ap (λ (z : Bool). site_text k b d z) r

pub same_registers : (n : Netlist) (count bits : ℕ) → count ≡ length (registers n.signals) → bits ≡ bits_of (registers n.signals) → register_text count bits ≡ register_line n
same_registers n count bits p q = ap (λ (m : ℕ). register_text m bits) p ∙ ap (λ (m : ℕ). register_text (length (registers n.signals)) m) q

-- three parts, one after another
pub three_parts : (f s r o p q t : Text) → o ≡ [] → p ≡ o ++ f → q ≡ p ++ s → t ≡ q ++ r → t ≡ (f ++ s) ++ r
three_parts f s r o p q t none hp hq ht =
    ht ∙ ap (λ (l : Text). l ++ r) (hq ∙ ap (λ (l : Text). l ++ s) (hp ∙ ap (λ (l : Text). l ++ f) none))
