-- A file of the grammar ends in `;` and `endmodule`.
use Rattle.safl_verilog.proofs.Common.{Decides-eqb, Only, VerilogTerminal, append-nil, within}
use Rattle.std.proofs.Common.{◌≡◌, ℕ, zero, suc, Bool, true, false, cond, ◌==◌, List, [], ◌∷◌, ◌++◌, Option, Some, None, refl, sym, ap, subst, ◌∙◌, append_assoc, inl, inr}
use Rattle.safl_grammar.specs.Syntax.{Syntax, nothing, token, follows, turns}
use Rattle.safl_verilog.specs.Files.{Spot, Declaration, Statement, Assign, Always, File}
use Rattle.safl_verilog.specs.Grammar
use Rattle.safl_verilog.specs.Grammar.{spot}
use Rattle.safl_verilog.specs.Codes.{code_of, classed}
use Rattle.safl_verilog.specs.declared.token.Keyword.TheVariants as keywords
use Rattle.safl_verilog.specs.declared.token.Symbol.TheVariants as symbols
use Rattle.safl_verilog.proofs.Classes.{keyword_class, symbol_class}

-- the last token has the code
pub record EndsIn (code : ℕ) (ts : List VerilogTerminal) : Type 0 where
  pub before : List VerilogTerminal
  pub last : VerilogTerminal
  pub joined : ts ≡ before ++ last ∷ []
  pub is : code_of last.kind ≡ code

-- the last two tokens are `;` and `endmodule`
pub record EndsFile (ts : List VerilogTerminal) : Type 0 where
  pub before : List VerilogTerminal
  pub semicolon : VerilogTerminal
  pub last : VerilogTerminal
  pub joined : ts ≡ before ++ semicolon ∷ last ∷ []
  pub closes : code_of semicolon.kind ≡ 23
  pub is : code_of last.kind ≡ 5

behind_in : (code : ℕ) (u v : List VerilogTerminal) → EndsIn code v → EndsIn code (u ++ v)
behind_in code u v e = record { before = u ++ e.before; last = e.last; joined = ap (λ (l : List VerilogTerminal). u ++ l) e.joined ∙ sym (append_assoc u e.before (e.last ∷ [])); is = e.is }

behind_file : (u v : List VerilogTerminal) → EndsFile v → EndsFile (u ++ v)
behind_file u v e = record {
  before = u ++ e.before;
  semicolon = e.semicolon;
  last = e.last;
  joined = ap (λ (l : List VerilogTerminal). u ++ l) e.joined ∙ sym (append_assoc u e.before (e.semicolon ∷ e.last ∷ []));
  closes = e.closes;
  is = e.is;
}

abbrev Texts : Type 0 → Type 1
Texts A = List VerilogTerminal → A → Type 0

-- each text ends so
abbrev Ends : {A : Type 0} → ℕ → Texts A → Type 0
Ends {A} code R = (w : List VerilogTerminal) (x : A) → R w x → EndsIn code w

then : {A B : Type 0} (code : ℕ) (R : Texts A) (S : A → Texts B) → ((x : A) → Ends code (S x))
    → Ends code (λ w y. (u : List VerilogTerminal) × (v : List VerilogTerminal) × (x : A) × (w ≡ u ++ v) × R u x × S x v y)
then code R S h w y (u, v, x, e, d, g) = subst (λ (l : List VerilogTerminal). EndsIn code l) (sym e) (behind_in code u v (h x v y g))

then_nothing : {A B : Type 0} (code : ℕ) (s : Syntax VerilogTerminal A) (f : A → B) → Ends code s.derives → Ends code (follows s (λ x. nothing (f x))).derives
then_nothing code s f h w y (u, v, x, e, d, g) =
    let whole : w ≡ u = e ∙ ap (λ (l : List VerilogTerminal). u ++ l) g.0 ∙ append-nil u in
    subst (λ (l : List VerilogTerminal). EndsIn code l) (sym whole) (h u x d)

one : (code : ℕ) → Ends code (token (classed (code ∷ []) spot)).derives
one code w x (t, e, c) = record { before = []; last = t; joined = e; is = same (code_of t.kind) c }
  where
    same : (n : ℕ) → cond (within (Only (code ∷ [])) n) (Some (spot t)) None ≡ Some x → n ≡ code
    same n c = go (n == code) refl c
      where
        go : (b : Bool) → (n == code) ≡ b → cond (cond b true false) (Some (spot t)) None ≡ Some x → n ≡ code
        go true e c = (Decides-eqb n code).0 e
        go false e c = absurd cc

one_semicolon : Ends 23 (Grammar.verilog_symbol symbols.Semicolon).derives
one_semicolon = subst (λ (c : VerilogTerminal → Option Spot). Ends 23 (token c).derives) (sym (symbol_class symbols.Semicolon)) (one 23)

one_endmodule : Ends 5 (Grammar.verilog_keyword keywords.Endmodule).derives
one_endmodule = subst (λ (c : VerilogTerminal → Option Spot). Ends 5 (token c).derives) (sym (keyword_class keywords.Endmodule)) (one 5)

-- ---- declarations and statements end in `;`

last : {B : Type 0} (f : Spot → B) → Ends 23 (follows (Grammar.verilog_symbol symbols.Semicolon) (λ s. nothing (f s))).derives
last f = then_nothing 23 (Grammar.verilog_symbol symbols.Semicolon) f one_semicolon

decl_ends : Ends 23 Grammar.decl.derives
decl_ends = then 23 _ _ (λ k. then 23 _ _ (λ r. then 23 _ _ (λ a. last (λ s. record { sort = k; range = r; name = a }))))

assign_ends : Ends 23 Grammar.assign.derives
assign_ends = then 23 _ _ (λ k. then 23 _ _ (λ a. then 23 _ _ (λ e. then 23 _ _ (λ c. last (λ s. Assign a c)))))

always_ends : Ends 23 Grammar.always.derives
always_ends =
    then 23 _ _ (λ k1. then 23 _ _ (λ k2. then 23 _ _ (λ k3. then 23 _ _ (λ k4. then 23 _ _ (λ clock. then 23 _ _ (λ k5.
    then 23 _ _ (λ k6. then 23 _ _ (λ k7. then 23 _ _ (λ reset. then 23 _ _ (λ k8. then 23 _ _ (λ target. then 23 _ _ (λ k9. then 23 _ _ (λ initial. then 23 _ _ (λ s.
    then 23 _ _ (λ k10. then 23 _ _ (λ second. then 23 _ _ (λ k11. then 23 _ _ (λ source. last (λ s. Always clock reset target initial second source)))))))))))))))))))

another_decl_ends : (ds : List Declaration) → Ends 23 (Grammar.another_decl ds).derives
another_decl_ends ds = then_nothing 23 Grammar.decl (λ d. ds ++ d ∷ []) decl_ends

stmt_ends : Ends 23 Grammar.stmt.derives
stmt_ends w x (inl d) = assign_ends w x d
stmt_ends w x (inr d) = always_ends w x d

another_stmt_ends : (ss : List Statement) → Ends 23 (Grammar.another_stmt ss).derives
another_stmt_ends ss = then_nothing 23 Grammar.stmt (λ s. ss ++ s ∷ []) stmt_ends

-- what ended so before some turns ends so after them
turns_end : {A : Type 0} (code : ℕ) (step : A → Syntax VerilogTerminal A) → ((a : A) → Ends code (step a).derives) → (k : ℕ) (a : A) (u w : List VerilogTerminal)
    (x : A) → EndsIn code u → (turns k step a).derives w x → EndsIn code (u ++ w)
turns_end code step h zero a u w x e d = subst (λ (l : List VerilogTerminal). EndsIn code (u ++ l)) (sym d.0) (subst (λ (l : List VerilogTerminal). EndsIn code l) (sym (append-nil u)) e)
turns_end code step h (suc k) a u w x e (inl (v, z, y, j, d, g)) =
    subst (λ (l : List VerilogTerminal). EndsIn code (u ++ l)) (sym j)
    (subst (λ (l : List VerilogTerminal). EndsIn code l) (append_assoc u v z) (turns_end code step h k y (u ++ v) z x (behind_in code u v (h a v y d)) g))
turns_end code step h (suc k) a u w x e (inr d) = subst (λ (l : List VerilogTerminal). EndsIn code (u ++ l)) (sym d.0) (subst (λ (l : List VerilogTerminal). EndsIn code l) (sym (append-nil u)) e)

-- ---- files

closed : (u w : List VerilogTerminal) → EndsIn 23 u → EndsIn 5 w → (t : VerilogTerminal) → w ≡ t ∷ [] → EndsFile (u ++ w)
closed u w e d t j =
    let code : code_of t.kind ≡ 5 = only d.before d.last t (sym d.joined ∙ j) d.is in
    record {
      before = e.before;
      semicolon = e.last;
      last = t;
      joined = ap (λ (l : List VerilogTerminal). u ++ l) j ∙ ap (λ (l : List VerilogTerminal). l ++ t ∷ []) e.joined ∙ append_assoc e.before (e.last ∷ []) (t ∷ []);
      closes = e.is;
      is = code;
    }
  where
    only : (b : List VerilogTerminal) (s t : VerilogTerminal) → b ++ s ∷ [] ≡ t ∷ [] → code_of s.kind ≡ 5 → code_of t.kind ≡ 5
    only [] s t e h = let same : s ≡ t = cc in subst (λ (v : VerilogTerminal). code_of v.kind ≡ 5) same h
    only (a ∷ []) s t e h = absurd cc
    only (a ∷ (b ∷ c)) s t e h = absurd cc

body_ends : (hs : List Spot) (u w : List VerilogTerminal) (f : File) → EndsIn 23 u → (Grammar.body hs).derives w f → EndsFile (u ++ w)
body_ends hs u w f e (d1, r1, ds, j1, m1, (d2, r2, ss, j2, m2, (d3, r3, k, j3, m3, z))) =
    let a = turns_end 23 Grammar.another_decl another_decl_ends m1.0 [] u d1 ds e m1.1 in
    let b = turns_end 23 Grammar.another_stmt another_stmt_ends m2.0 [] (u ++ d1) d2 ss a m2.1 in
    let last : r2 ≡ m3.0 ∷ [] = j3 ∙ ap (λ (l : List VerilogTerminal). d3 ++ l) z.0 ∙ append-nil d3 ∙ m3.1 in
    let c = closed ((u ++ d1) ++ d2) r2 b (subst (λ (l : List VerilogTerminal). EndsIn 5 l) (j_last j3 z.0) (one_endmodule d3 k m3)) m3.0 last in
    let parts : u ++ w ≡ ((u ++ d1) ++ d2) ++ r2 =
    ap (λ (l : List VerilogTerminal). u ++ l) (j1 ∙ ap (λ (l : List VerilogTerminal). d1 ++ l) j2) ∙ sym (append_assoc u d1 (d2 ++ r2)) ∙ sym (append_assoc (u ++ d1) d2 r2) in
    subst (λ (l : List VerilogTerminal). EndsFile l) (sym parts) c
  where
    j_last : r2 ≡ d3 ++ r3 → r3 ≡ [] → d3 ≡ r2
    j_last a b = sym (a ∙ ap (λ (l : List VerilogTerminal). d3 ++ l) b ∙ append-nil d3)

pub file_ends : (w : List VerilogTerminal) (f : File) → Grammar.file.derives w f → EndsFile w
file_ends w f (u1, v1, x1, j1, h1, (u2, v2, x2, j2, h2, (u3, v3, x3, j3, h3, (u4, v4, x4, j4, h4, (u5, v5, x5, j5, h5, (u6, v6, x6, j6, h6, b)))))) =
    let f6 = subst (λ (l : List VerilogTerminal). EndsFile l) (sym j6) (body_ends x4 u6 v6 f (one_semicolon u6 x6 h6) b) in
    let f5 = subst (λ (l : List VerilogTerminal). EndsFile l) (sym j5) (behind_file u5 v5 f6) in
    let f4 = subst (λ (l : List VerilogTerminal). EndsFile l) (sym j4) (behind_file u4 v4 f5) in
    let f3 = subst (λ (l : List VerilogTerminal). EndsFile l) (sym j3) (behind_file u3 v3 f4) in
    let f2 = subst (λ (l : List VerilogTerminal). EndsFile l) (sym j2) (behind_file u2 v2 f3) in
    subst (λ (l : List VerilogTerminal). EndsFile l) (sym j1) (behind_file u1 v1 f2)
