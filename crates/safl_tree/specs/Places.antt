-- Programs without their places.
use Rattle.std.specs.Prelude.{List, map}
use Rattle.safl_tree.specs.Tree.{Tree, Number, Sized, Variable, If, Let, Cases, Op, Call, Trees, no_tree, a_tree, Binds, no_bind, a_bind, Arms, default_arm, an_arm, Parameter, Definition}

-- the expression with 0 for each place
abbrev mutual
  pub unplaced : Tree → Tree
  unplaced (Number p n) = Number 0 n
  unplaced (Sized p w n) = Sized 0 w n
  unplaced (Variable p x) = Variable 0 x
  unplaced (If p c a b) = If 0 (unplaced c) (unplaced a) (unplaced b)
  unplaced (Let p bs t) = Let 0 (unplaced_binds bs) (unplaced t)
  unplaced (Cases p e arms) = Cases 0 (unplaced e) (unplaced_arms arms)
  unplaced (Op p o ts) = Op 0 o (unplaced_trees ts)
  unplaced (Call p f ts) = Call 0 f (unplaced_trees ts)

  pub unplaced_trees : Trees → Trees
  unplaced_trees no_tree = no_tree
  unplaced_trees (a_tree t ts) = a_tree (unplaced t) (unplaced_trees ts)

  pub unplaced_binds : Binds → Binds
  unplaced_binds no_bind = no_bind
  unplaced_binds (a_bind p x w t bs) = a_bind 0 x w (unplaced t) (unplaced_binds bs)

  pub unplaced_arms : Arms → Arms
  unplaced_arms (default_arm t) = default_arm (unplaced t)
  unplaced_arms (an_arm l t arms) = an_arm (unplaced l) (unplaced t) (unplaced_arms arms)

abbrev pub unplaced_program : List Definition → List Definition
unplaced_program ds =
    map (λ (d : Definition). record d { place = 0; params = map (λ (p : Parameter). record p { place = 0 }) d.params; body = unplaced d.body }) ds

-- ---- parts by name

abbrev pub unplaced_parameter : Parameter → Parameter
unplaced_parameter p = record { place = 0; name = p.name; width = p.width }

abbrev pub unplaced_definition : Definition → Definition
unplaced_definition d = record { joined = d.joined; place = 0; name = d.name; params = map unplaced_parameter d.params; width = d.width; body = unplaced d.body }
