-- A text reads as one netlist, or has one first fault.
use Rattle.safl_verilog.proofs.Common.{File, Netlist, VFault, drop-append_seam, ◌⊎◌}
use Rattle.std.proofs.Common.{◌≡◌, ℕ, List, [], ◌∷◌, length, refl, sym, ap, subst, ◌∙◌, arith, inl, inr}
use Rattle.std.proofs.Math.ListN.{drop}
use Rattle.safl_grammar.specs.Syntax.{Rule}
use Rattle.safl_verilog.specs.declared.fault.VRule.TheVariants as rules
use Rattle.safl_verilog.specs.Tokens.{VerilogTerminal, HasVerilogTokens}
use Rattle.safl_verilog.specs.Faults.{at, faults}
use Rattle.safl_verilog.specs.Netlists.{netlist}
use Rattle.safl_verilog.specs.Reads.{IsFile, HasUnexpected, place_in, Reads, HasFault, lexical, unexpected, broken}
use Rattle.safl_verilog.proofs.Grammar
use Rattle.safl_verilog.proofs.Texts.{tokens_once, tokens_or_fault, fault_once, not_cut}

-- what is left at the first fault of tokens
same_rest : (ts r s : List VerilogTerminal) (d e : Rule) → HasUnexpected ts d r → HasUnexpected ts e s → r ≡ s
same_rest ts r s d e a b =
    let le = a.first e b.front s b.parts b.broken in
    let ge = b.first d a.front r a.parts a.broken in
    let sizes : length a.front ≡ length b.front = elim le [
      | inl h ↦ elim ge [ inl k ↦ absurd (omega arith) | inr k ↦ sym k.0 ]
      | inr h ↦ h.0
    ] in
    let cut_a : drop (length a.front) ts ≡ r = ap (λ (l : List VerilogTerminal). drop (length a.front) l) a.parts ∙ drop-append_seam a.front r in
    let cut_b : drop (length b.front) ts ≡ s = ap (λ (l : List VerilogTerminal). drop (length b.front) l) b.parts ∙ drop-append_seam b.front s in
    sym cut_a ∙ ap (λ n. drop n ts) sizes ∙ cut_b

file_at : (text : List ℕ) (ts us : List VerilogTerminal) (x : File) → HasVerilogTokens text ts → HasVerilogTokens text us → IsFile us x → IsFile ts x
file_at text ts us x a b h = subst (λ (l : List VerilogTerminal). IsFile l x) (tokens_once text us ts b a) h

unexpected_at : (text : List ℕ) (ts us r : List VerilogTerminal) (e : Rule) → HasVerilogTokens text ts → HasVerilogTokens text us → HasUnexpected us e r → HasUnexpected ts e r
unexpected_at text ts us r e a b h = subst (λ (l : List VerilogTerminal). HasUnexpected l e r) (tokens_once text us ts b a) h

pub one_netlist : (text : List ℕ) (n m : Netlist) → Reads text n → Reads text m → n ≡ m
one_netlist text n m a b =
    let same = Grammar.one_file a.tokens a.file b.file a.derived (file_at text a.tokens b.tokens b.file a.cut b.cut b.derived) in
    sym a.means ∙ ap netlist same ∙ b.means

one_fault_first : (f g : VFault) (m n : List VFault) → f ∷ m ≡ g ∷ n → f ≡ g
one_fault_first f g m n e = cc

pub one_fault : (text : List ℕ) (f g : VFault) → HasFault text f → HasFault text g → f ≡ g
one_fault text f g (lexical p a e) (lexical q b h) = e ∙ ap (at rules.V01) (fault_once text p q a b) ∙ sym h
one_fault text f g (lexical p a e) (unexpected ts r d b k h) = absurd (not_cut text ts p b a)
one_fault text f g (lexical p a e) (broken ts x more b k h) = absurd (not_cut text ts p b a)
one_fault text f g (unexpected ts r d a k e) (lexical q b h) = absurd (not_cut text ts q a b)
one_fault text f g (unexpected ts r d a k e) (unexpected us s d2 b l h) =
    e ∙ ap (λ (t : List VerilogTerminal). at rules.V02 (place_in text t)) (same_rest ts r s d d2 k (unexpected_at text ts us s d2 a b l)) ∙ sym h
one_fault text f g (unexpected ts r d a k e) (broken us x more b l h) = absurd (Grammar.not_both ts x d r (file_at text ts us x a b l) k)
one_fault text f g (broken ts x more a k e) (lexical q b h) = absurd (not_cut text ts q a b)
one_fault text f g (broken ts x more a k e) (unexpected us s d b l h) = absurd (Grammar.not_both ts x d s k (unexpected_at text ts us s d a b l))
one_fault text f g (broken ts x m a k e) (broken us y n b l h) =
    let same = Grammar.one_file ts x y k (file_at text ts us y a b l) in
    one_fault_first f g m n (sym e ∙ ap faults same ∙ h)

pub not_both : (text : List ℕ) (n : Netlist) (f : VFault) → Reads text n → HasFault text f → ⊥
not_both text n f a (lexical p b e) = not_cut text a.tokens p a.cut b
not_both text n f a (unexpected ts r d b k e) = Grammar.not_both a.tokens a.file d r a.derived (unexpected_at text a.tokens ts r d a.cut b k)
not_both text n f a (broken ts x more b k e) =
    let same = Grammar.one_file a.tokens a.file x a.derived (file_at text a.tokens ts x a.cut b k) in
    let none : [] ≡ f ∷ more = sym a.kept ∙ ap faults same ∙ e in
    cc

abbrev Either : List ℕ → Type 0
Either text = ((n : Netlist) × Reads text n) ⊎ ((f : VFault) × HasFault text f)

of_file : (text : List ℕ) (ts : List VerilogTerminal) (x : File) → HasVerilogTokens text ts → IsFile ts x → (fs : List VFault) → faults x ≡ fs → Either text
of_file text ts x a h [] e = inl (netlist x, record { tokens = ts; cut = a; file = x; derived = h; kept = e; means = refl })
of_file text ts x a h (f ∷ more) e = inr (f, broken ts x more a h e)

pub netlist_or_fault : (text : List ℕ) → Either text
netlist_or_fault text = elim (tokens_or_fault text) [
  | inl t ↦ elim (Grammar.file_or_fault t.0) [
    | inl x ↦ of_file text t.0 x.0 t.1 x.1 (faults x.0) refl
    | inr e ↦ inr (at rules.V02 (place_in text e.1), unexpected t.0 e.1 e.0 t.1 e.2 refl)
  ]
  | inr p ↦ inr (at rules.V01 p.0, lexical p.0 p.1 refl)
]
