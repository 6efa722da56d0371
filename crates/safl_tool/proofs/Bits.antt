-- What is said of bit-level circuits.
use Rattle.safl_tool.proofs.Common.{IsAcyclic, Netlist, NoFault, Refusal, RefusesBy, Status, may_give}
use Rattle.std.proofs.Common.{◌≡◌, ℕ, List, false, ap, subst, ◌∙◌, arith, inl, inr}
use Rattle.safl_aiger.specs.declared.reading.AigRule.{AigRule}
use Rattle.safl_aig.specs.BitLevel.{IsLight}
use Rattle.safl_aig.specs.Lines.{fault_line}
use Rattle.safl_verilog.specs.Laws as verilog
use Rattle.safl_tool.specs.BitLevel.{RefusesNetlist, nonzero, heavy, RefusesBitsOf, HasBits, RefusesAig, IsAig}
use Rattle.safl_tool.specs.CommandTasks.{RefusesNet}
use Rattle.safl_tool.specs.Running.{IsRunnable, IsUnrunnable, faulty, looped}
use Rattle.safl_tool.proofs.Refusing.{refuses_more}

-- nothing is given where a text is refused
netlist_quiet : (n : Netlist) (s : Status) (line : List ℕ) → RefusesNetlist n s line → may_give s ≡ false
netlist_quiet n s line (nonzero r least is told) = ap may_give is
netlist_quiet n s line (heavy zero above is told) = ap may_give is

pub bits_quiet : (name text : List ℕ) (s : Status) (line : List ℕ) → RefusesBitsOf name text s line → may_give s ≡ false
bits_quiet name text s line r = elim r [ inl f ↦ ap may_give f.0 | inr b ↦ netlist_quiet b.0 s line b.2 ]

pub aig_quiet : (name text : List ℕ) (s : Status) (line : List ℕ) → RefusesAig name text s line → may_give s ≡ false
aig_quiet name text s line r = ap may_give r.0

-- what is refused
pub net_refuses : (name text : List ℕ) (r : Refusal) → RefusesBy (RefusesNet name text) r → RefusesBy (RefusesBitsOf name text) r
net_refuses name text r = refuses_more (RefusesNet name text) (RefusesBitsOf name text) (λ s line h. inl h) r

pub netlist_refuses : (name text : List ℕ) (n : Netlist) (r : Refusal) → IsRunnable text n → RefusesBy (RefusesNetlist n) r → RefusesBy (RefusesBitsOf name text) r
netlist_refuses name text n r runs = refuses_more (RefusesNetlist n) (RefusesBitsOf name text) (λ s line h. inr (n, runs, h)) r

pub same_line : (name : List ℕ) (l n : ℕ) (x e : AigRule) → l ≡ n → x ≡ e → fault_line name l x ≡ fault_line name n e
same_line name l n x e p q = ap (λ (k : ℕ). fault_line name k x) p ∙ ap (λ (r : AigRule). fault_line name n r) q

-- what is promised is not refused
light_not_refused : (n : Netlist) (s : Status) (line : List ℕ) → IsLight n → RefusesNetlist n s line → ⊥
light_not_refused n s line l (nonzero r least is told) = least.nonzero (l.zero r)
light_not_refused n s line l (heavy zero above is told) = let light = l.light in omega (arith, above, light)

module _ (one : verilog.OneNetlist) (apart : verilog.NotBoth) (name : List ℕ) (s : Status) (line text : List ℕ) (p : HasBits text) where
  runnable_not : IsUnrunnable name text line → ⊥
  runnable_not (faulty f h is) = apart text p.0 f p.1.reads h
  runnable_not (looped n ws h k cyclic is) = cyclic (subst (λ (x : Netlist). IsAcyclic x) (one text p.0 n p.1.reads h) p.1.acyclic)

  pub bits_not_refused : RefusesBitsOf name text s line → ⊥
  bits_not_refused r = elim r [
    | inl u ↦ runnable_not u.1
    | inr b ↦ light_not_refused b.0 s line (subst IsLight (one text p.0 b.0 p.1.reads b.1.reads) p.2) b.2
  ]

pub aig_not_refused : NoFault → (name : List ℕ) (s : Status) (line text : List ℕ) → IsAig text → RefusesAig name text s line → ⊥
aig_not_refused sound name s line text a r = sound text a.0 r.1 r.2 a.1 r.3
