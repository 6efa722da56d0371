-- The first faults of small sources, and the form of one that has none.
use Rattle.std.proofs.Common.{◌≡◌, ℕ, List, [], ◌∷◌, Some, Bool, true, false, refl}
use Rattle.std.specs.Prelude.{Ok, codes}
use Rattle.safl_word.specs.declared.fault.Rule.TheVariants as rules
use Rattle.safl_word.specs.declared.primitive.Primitive.TheVariants as prims
use Rattle.safl_term.specs.Terms as terms
use Rattle.safl_term.specs.Terms.{Term, Const, Var, Loop, Terms, Nil, Cons}
use Rattle.safl_tree.specs.Tree.{Tree, Number, Variable, If, Cases, Op, Call, trees_of, default_arm, an_arm, Parameter, Definition}
use Rattle.safl_typing.specs.Heads.{Slot}
use Rattle.safl_typing.specs.Typing.{word}
use Rattle.safl_typing.specs.Walk.{outcome, fault, fault_with}
use Rattle.safl_typing.specs.FirstFault.{first_fault}

abbrev named_f : List ℕ
named_f = codes "f"

abbrev named_g : List ℕ
named_g = codes "g"

abbrev named_x : List ℕ
named_x = codes "x"

abbrev named_main : List ℕ
named_main = codes "main"

-- a definition at a place, with parameters of 8 bits
abbrev x_at : ℕ → Parameter
x_at p = record { place = p; name = named_x; width = 8 }

abbrev def : Bool → ℕ → List ℕ → List Parameter → ℕ → Tree → Definition
def joined p name params w body = record { joined = joined; place = p; name = name; params = params; width = w; body = body }

-- fun main():8 = x
unknown_variable : first_fault (def false 4 named_main [] 8 (Variable 15 named_x) ∷ []) ≡ Some (fault rules.E08 15)
unfolding first_fault
unknown_variable = refl

-- fun f():1 = 0 fun f():1 = 0 fun main():1 = 0
defined_twice : first_fault (def false 4 named_f [] 1 (Number 12 0) ∷ def false 18 named_f [] 1 (Number 26 0) ∷ def false 32 named_main [] 1 (Number 43 0) ∷ []) ≡ Some (fault rules.E06 18)
unfolding first_fault
defined_twice = refl

-- fun main(x:8, x:8):8 = 1
name_twice : first_fault (def false 4 named_main (x_at 9 ∷ x_at 14 ∷ []) 8 (Number 23 1) ∷ []) ≡ Some (fault rules.E07 14)
unfolding first_fault
name_twice = refl

-- fun f(x:8):8 = f(x) + 1 fun main():8 = f(1)
own_call : first_fault (def false 4 named_f (x_at 6 ∷ []) 8 (Op 15 prims.Add
    (trees_of (Call 15 named_f (trees_of (Variable 17 named_x ∷ [])) ∷ Number 22 1 ∷ []))) ∷ def false 28 named_main [] 8
    (Call 39 named_f (trees_of (Number 41 1 ∷ []))) ∷ []) ≡ Some (fault rules.E10 15)
unfolding first_fault
own_call = refl

-- fun f(x:8):8 = x fun main():8 = f()
too_few : first_fault (def false 4 named_f (x_at 6 ∷ []) 8 (Variable 15 named_x) ∷ def false 21 named_main [] 8 (Call 32 named_f (trees_of [])) ∷ []) ≡ Some (fault_with rules.E11 32 1 0)
unfolding first_fault
too_few = refl

-- fun f():8 = 1 and g():4 = 1 fun main():8 = f()
group_width : first_fault (def false 4 named_f [] 8 (Number 12 1) ∷ def true 18 named_g [] 4 (Number 26 1) ∷ def false 32 named_main [] 8
    (Call 43 named_f (trees_of [])) ∷ []) ≡ Some (fault_with rules.E12 18 8 4)
unfolding first_fault
group_width = refl

-- fun f(x:8):8 = 1 + g(x) and g(x:8):8 = x fun main():8 = 1
member_outside_tail : first_fault (def false 4 named_f (x_at 6 ∷ []) 8
    (Op 15 prims.Add (trees_of (Number 15 1 ∷ Call 19 named_g (trees_of (Variable 21 named_x ∷ [])) ∷ []))) ∷ def true 28 named_g (x_at 30 ∷ []) 8
    (Variable 39 named_x) ∷ def false 45 named_main [] 8 (Number 56 1) ∷ []) ≡ Some (fault rules.E10 19)
unfolding first_fault
member_outside_tail = refl

-- fun main():4 = 16
too_large : first_fault (def false 4 named_main [] 4 (Number 15 16) ∷ []) ≡ Some (fault rules.E13 15)
unfolding first_fault
too_large = refl

-- fun main():8 = if 5 == 5 then 1 else 0
not_known : first_fault (def false 4 named_main [] 8 (If 15 (Op 18 prims.Eq (trees_of (Number 18 5 ∷ Number 23 5 ∷ []))) (Number 30 1) (Number 37 0)) ∷ []) ≡ Some (fault rules.E14 18)
unfolding first_fault
not_known = refl

-- fun main():8 = f()
not_above : first_fault (def false 4 named_main [] 8 (Call 15 named_f (trees_of [])) ∷ []) ≡ Some (fault rules.E09 15)
unfolding first_fault
not_above = refl

-- fun main(a:8):8 = bits(a, 8, 1)
bad_range : first_fault (def false 4 named_main (x_at 9 ∷ []) 8 (Op 18 (prims.Bits 8 1) (trees_of (Variable 23 named_x ∷ []))) ∷ []) ≡ Some (fault rules.E05 18)
unfolding first_fault
bad_range = refl

-- fun f():8 = x, and a text without definitions
no_main : first_fault (def false 4 named_f [] 8 (Number 12 1) ∷ []) ≡ Some (fault rules.E15 4)
unfolding first_fault
no_main = refl

no_definition : first_fault [] ≡ Some (fault rules.E15 0)
unfolding first_fault
no_definition = refl

body_before_main : first_fault (def false 4 named_f [] 8 (Variable 12 named_x) ∷ []) ≡ Some (fault rules.E08 12)
unfolding first_fault
body_before_main = refl

-- fun f(x:8):8 = case x { 0 => 1, default => g(x) } and g(x:8):8 = f(x - 1) fun main(x:8):8 = (1 + f(x)) + f(2)
abbrev two_groups : List Definition
two_groups =
    def false 4 named_f (x_at 6 ∷ []) 8 (Cases 15 (Variable 20 named_x) (an_arm (Number 24 0) (Number 29 1) (default_arm (Call 43 named_g (trees_of (Variable 45 named_x ∷ []))))))
    ∷ def true 54 named_g (x_at 56 ∷ []) 8 (Call 65 named_f (trees_of (Op 67 prims.Sub (trees_of (Variable 67 named_x ∷ Number 71 1 ∷ [])) ∷ [])))
    ∷ def false 78 named_main (x_at 83 ∷ []) 8 (Op 92 prims.Add
    (trees_of (Op 92 prims.Add (trees_of (Number 93 1 ∷ Call 97 named_f (trees_of (Variable 99 named_x ∷ [])) ∷ [])) ∷ Call 105 named_f
    (trees_of (Number 107 2 ∷ [])) ∷ [])))
    ∷ []

abbrev x8 : List Slot
x8 = record { name = named_x; width = 8 } ∷ []

abbrev one : Term → Terms
one t = Cons t Nil

abbrev two : Term → Term → Terms
two a b = Cons a (Cons b Nil)

-- the scrutinee is slot 1, the two members are one group, and the calls in `main` are the sites
their_form : outcome two_groups ≡ Ok (record {
  functions =
      record {
        name = named_f;
        params = x8;
        width = 8;
        unit = 0;
        first_site = 1;
        body = terms.Let (one (Var 0))
            (terms.If (terms.Op prims.Eq (two (Var 1) (Const (word 8 0)))) (Const (word 8 1)) (Loop 1 (one (Var 0))));
      }
      ∷ record { name = named_g; params = x8; width = 8; unit = 0; first_site = 1; body = Loop 0 (one (terms.Op prims.Sub (two (Var 0) (Const (word 8 1))))) }
      ∷ record {
        name = named_main;
        params = x8;
        width = 8;
        unit = 2;
        first_site = 1;
        body = terms.Op prims.Add
            (two (terms.Op prims.Add (two (Const (word 8 1)) (terms.Call 0 1 (one (Var 0))))) (terms.Call 0 2 (one (Const (word 8 2)))));
      }
      ∷ [];
  sites = record { caller = 2; callee = 0 } ∷ record { caller = 2; callee = 0 } ∷ [];
})
unfolding outcome
their_form = refl
