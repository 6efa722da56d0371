-- The body of a checked program's function, and the setting in which it is lowered.
use Rattle.safl_lower.proofs.Common.{HasRoom, Netlist, Owner, Ports, Program, Sig, SiteTable, Typed, nodes}
use Rattle.std.proofs.Common.{◌≡◌, ℕ, suc, ◌+◌, ◌*◌, ◌<◌, List, true, refl, sym, ap, ◌∙◌, arith}
use Rattle.safl_term.specs.Terms.{Term}
use Rattle.safl_term.specs.WellFormed.{IsWellFormed}
use Rattle.safl_term.specs.Checked.{CheckedProgram, IsChecked}
use Rattle.safl_lower.specs.Lowering.{Setting}
use Rattle.safl_lower.specs.Bodies.{CanLower}

-- the term is the whole body of its owner, at the tail position, with the sites of the owner's interval
pub record IsBody (F : Owner) (env : List ℕ) (t : Term) (w : ℕ) : Type 0 where
  pub typed : Typed F true env t w
  pub from : typed.low ≡ F.first
  pub upto : typed.high ≡ F.last

-- a body whose ports are in the net, with room for its circuit
pub record Given (n : Netlist) (P : SiteTable) (slots : List Sig) (path : Sig) (t : Term) : Type 0 where
  pub owner : Owner
  pub env : List ℕ
  pub width : ℕ
  pub setting : Setting n owner P slots env path
  pub body : IsBody owner env t width
  pub room : HasRoom n (32 * nodes t + 32)

-- the members of a group have one width
pub one_width : (C : Program) → IsWellFormed C → (f h : ℕ) → f < C.functions → h < C.functions → C.unit h ≡ C.unit f → C.result h ≡ C.result f
one_width C w f h l m e = sym (w.first h m).2 ∙ ap C.result e ∙ (w.first f l).2

-- a function of a checked program, as the owner of its body
abbrev pub owner_of : CheckedProgram → ℕ → Owner
owner_of c f = record { program = c.program; function = f; first = c.first_site f; last = c.first_site (suc f) }

-- the ports of its sites
abbrev pub table_of : CheckedProgram → ℕ → Ports → SiteTable
table_of c f P = record { first = c.first_site f; ports = P.sites }

module _ (c : CheckedProgram) (h : IsChecked c) (f : ℕ) (l : f < c.program.functions) where
  pub own_body : IsBody (owner_of c f) (c.program.params f) (c.program.body f) (c.program.result f)
  own_body = record {
    typed = record { low = c.first_site f; high = c.first_site (suc f); from = omega arith; upto = omega arith; spans = h.own_sites f l; width = h.formed.widths f l };
    from = refl;
    upto = refl;
  }

  pub own_setting : (n : Netlist) (P : Ports) → CanLower c f n P → Setting n (owner_of c f) (table_of c f P) P.args.items (c.program.params f) P.run
  own_setting n P able = record {
    path_bit = able.run;
    slots_sized = able.args;
    first = refl;
    last = able.count;
    sites_sized = able.sites;
    one_width = λ g m e. one_width c.program h.formed f g l m e;
  }

  pub own_given : (n : Netlist) (P : Ports) → CanLower c f n P → Given n (table_of c f P) P.args.items P.run (c.program.body f)
  own_given n P able = record { owner = owner_of c f; env = c.program.params f; width = c.program.result f; setting = own_setting n P able; body = own_body; room = able.room }
