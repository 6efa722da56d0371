-- A bank whose signals have the numbers of its registers shows the registers of these numbers.
use Rattle.safl_unit.proofs.Common.{Bank, CheckedProgram, Choice, EachAt, IsChecked, MemberPins, Names, Program, Sig, SitePins, UnitPins}
use Rattle.safl_unit.proofs.Common.{Val, Word, as_word, codes, eq-eqb, le-leb, lt-ltb, named, params_named, slice_get_within, words}
use Rattle.std.proofs.Common.{◌≡◌, ℕ, suc, ◌<◌, List, [], ◌∷◌, map, length, Some, true, cond, slice_get, ◌==◌, ◌&&◌, nat_le, inl, inr, refl, sym, ap, subst, ◌∙◌, arith}
use Rattle.safl_circuit.specs.Equations.{Registers, many}
use Rattle.safl_circuit.specs.Names.{of_function, of_site, of_param, is_unit, is_site, as_words, view}
use Rattle.safl_unit.specs.Cycles.{UnitShows, MemberShows, SiteShows, BankShows}
use Rattle.safl_unit.specs.Ties.{Tie, tied, ties, unit_ties, member_ties, function_ties, call_registers, site_ties, register_ties}
use Rattle.safl_unit.proofs.assembly.Members.{Among, among_left, among_right, among_ties, among_cond}
use Rattle.safl_unit.proofs.layout.Lining.{IsFull}

-- the signal of a tie has the line's number and width
pub record Reads (get : List ℕ → ℕ) (w : Val) (t : Tie) : Type 0 where
  pub number : get t.0.0 ≡ (w t.1.0).bits
  pub width : (w t.1.0).width ≡ t.0.1

word_is : (v : Word) (width bits : ℕ) → v.width ≡ width → v.bits ≡ bits → v ≡ as_word width bits
word_is v width bits e q = ap (λ x. record { width = x; bits = v.bits }) e ∙ ap (λ x. record { width = width; bits = x }) q

args_read : (get : List ℕ → ℕ) (w : Val) (f : List ℕ → List ℕ) (xs : List (List ℕ)) (ws : List ℕ) (ss : List Sig) → length xs ≡ length ws → length ss ≡ length ws
    → ((t : Tie) → Among t (tied (named (map f xs) ws) ss) → Reads get w t) → words w ss ≡ as_words ws (map (λ p. get (f p)) xs)
args_read get w f xs [] [] a b r = refl
args_read get w f xs [] (s ∷ ss) a b r = absurd (omega (arith, b))
args_read get w f xs (x ∷ ws) [] a b r = absurd (omega (arith, b))
args_read get w f [] (x ∷ ws) (s ∷ ss) a b r = absurd (omega (arith, a))
args_read get w f (p ∷ xs) (x ∷ ws) (s ∷ ss) a b r =
    let here = r ((f p, x), s) (inl refl) in
    let rest = args_read get w f xs ws ss (omega (arith, a)) (omega (arith, b)) (λ t h. r t (inr h)) in
    ap (λ v. v ∷ words w ss) (word_is (w s.0) x (get (f p)) here.width (sym here.number)) ∙ ap (λ l. as_word x (get (f p)) ∷ l) rest

-- a bank shows registers, where each unit is seen at its first member
pub record FirstsShow (C : Program) (P : Choice) (b : Bank) (v : Val) (r : Registers) : Type 0 where
  pub units : (u : ℕ) (x : UnitPins) → C.unit u ≡ u → slice_get b.units.items u ≡ Some x → UnitShows v x r u
  pub members : EachAt b.members.items (λ f m. MemberShows C v m r f)
  pub sites : EachAt b.sites.items (λ k s. 0 < k → SiteShows P v s r k)

module _ (c : CheckedProgram) (h : IsChecked c) (P : Choice) (b : Bank) (full : IsFull c.program b) (w : Val) (get : List ℕ → ℕ)
    (read : (t : Tie) → Among t (register_ties c.program c.names P b) → Reads get w t) where
  abbrev C : Program
  C = c.program

  abbrev D : Names
  D = c.names

  in_function : (f : ℕ) (t : Tie) → f < C.functions → Among t (function_ties C D b.units.items b.members.items f) → Reads get w t
  in_function f t l a = read t (among_left t (ties (function_ties C D b.units.items b.members.items) C.functions) _ (among_ties t (function_ties C D b.units.items b.members.items) f C.functions l a))

  in_unit : (u : ℕ) (x : UnitPins) (t : Tie) → u < C.functions → slice_get b.units.items u ≡ Some x → Among t (unit_ties C D u (Some x)) → Reads get w t
  in_unit u x t l e a = in_function u t l (among_left t (unit_ties C D u (slice_get b.units.items u)) _ (subst (λ o. Among t (unit_ties C D u o)) (sym e) a))

  in_member : (f : ℕ) (m : MemberPins) (t : Tie) → f < C.functions → slice_get b.members.items f ≡ Some m → Among t (member_ties C D f (Some m)) → Reads get w t
  in_member f m t l e a = in_function f t l (among_right t (unit_ties C D f (slice_get b.units.items f)) _ (subst (λ o. Among t (member_ties C D f o)) (sym e) a))

  in_site : (k : ℕ) (s : SitePins) (t : Tie) → k < suc C.sites → slice_get b.sites.items k ≡ Some s → Among t (call_registers C P k (Some s)) → Reads get w t
  in_site k s t l e a =
      read t (among_right t (ties (function_ties C D b.units.items b.members.items) C.functions) _
      (among_ties t (site_ties C P b.sites.items) k (suc C.sites) l (subst (λ o. Among t (call_registers C P k o)) (sym e) a)))

  unit_shows : (u : ℕ) (x : UnitPins) → C.unit u ≡ u → slice_get b.units.items u ≡ Some x → UnitShows w x (view C D get) u
  unit_shows u x first e =
      let lu = full.units in
      let inside = slice_get_within b.units.items u x e in
      let l : u < C.functions = omega (arith, lu, inside) in
      let own = eq-eqb (C.unit u) u first in
      let is : is_unit C u ≡ true = ap (λ t. t && (C.unit u == u)) (lt-ltb u C.functions l) ∙ own in
      let run = in_unit u x ((of_function D (codes "run$") u, 1), x.run) l e (among_cond _ _ _ own (inl refl)) in
      let fin = in_unit u x ((of_function D (codes "fin$") u, 1), x.fin) l e (among_cond _ _ _ own (inr (inl refl))) in
      let res = in_unit u x ((of_function D (codes "res$") u, C.result u), x.res) l e (among_cond _ _ _ own (inr (inr (inl refl)))) in
      record {
        run = ap (λ y. y == 1) (sym run.number) ∙ ap (λ t. t && (get (of_function D (codes "run$") u) == 1)) (sym is);
        fin = ap (λ y. y == 1) (sym fin.number) ∙ ap (λ t. t && (get (of_function D (codes "fin$") u) == 1)) (sym is);
        res = word_is (w x.res.0) (C.result u) _ res.width (sym res.number ∙ ap (λ t. cond t (get (of_function D (codes "res$") u)) 0) (sym is));
      }

  member_shows : (f : ℕ) (m : MemberPins) → slice_get b.members.items f ≡ Some m → MemberShows C w m (view C D get) f
  member_shows f m e =
      let lm = full.members in
      let inside = slice_get_within b.members.items f m e in
      let l : f < C.functions = omega (arith, lm, inside) in
      record {
        at = λ q. ap (λ y. y == 1) (sym (in_member f m ((of_function D (codes "at$") f, 1), m.at) l e (among_left _ _ _ (among_cond _ (many C f) _ q (inl refl)))).number);
        arg =
            args_read get w (of_param D f) (D.params f) (C.params f) m.args.items (params_named c f) (full.args f m e)
            (λ t a. in_member f m t l e (among_right t (cond (many C f) (((of_function D (codes "at$") f, 1), m.at) ∷ []) []) _ a));
      }

  site_shows : (k : ℕ) (s : SitePins) → slice_get b.sites.items k ≡ Some s → 0 < k → SiteShows P w s (view C D get) k
  site_shows k s e pos =
      let ls = full.sites in
      let inside = slice_get_within b.sites.items k s e in
      let l : k < suc C.sites = omega (arith, ls, inside) in
      let yes = lt-ltb 0 k pos in
      let is : is_site C k ≡ true = ap (λ t. t && nat_le k C.sites) yes ∙ le-leb k C.sites (omega (arith, l)) in
      let sent = in_site k s ((of_site (codes "sent$") k, 1), s.sent) l e (among_cond _ _ _ yes (inl refl)) in
      let got = in_site k s ((of_site (codes "got$") k, 1), s.got) l e (among_cond _ _ _ yes (inr (inl refl))) in
      record {
        sent = ap (λ y. y == 1) (sym sent.number) ∙ ap (λ t. t && (get (of_site (codes "sent$") k) == 1)) (sym is);
        got = ap (λ y. y == 1) (sym got.number) ∙ ap (λ t. t && (get (of_site (codes "got$") k) == 1)) (sym is);
        keep = λ q.
            let keep = in_site k s ((of_site (codes "keep$") k, C.result (C.callee k)), s.keep) l e (among_cond _ _ _ yes (inr (inr (among_cond _ (P.kept k) _ q (inl refl))))) in
            word_is (w s.keep.0) (C.result (C.callee k)) _ keep.width (sym keep.number);
      }

  pub firsts_show : FirstsShow C P b w (view C D get)
  firsts_show = record { units = unit_shows; members = member_shows; sites = site_shows }

  -- where each function has the entry of its unit
  pub bank_shows : ((f : ℕ) → f < C.functions → slice_get b.units.items f ≡ slice_get b.units.items (C.unit f)) → BankShows C P b w (view C D get)
  bank_shows unit = record {
    units = λ f x e.
        let lu = full.units in
        let inside = slice_get_within b.units.items f x e in
        let l : f < C.functions = omega (arith, lu, inside) in
        unit_shows (C.unit f) x ((h.formed.first f l).1) (sym (unit f l) ∙ e);
    members = member_shows;
    sites = site_shows;
  }
