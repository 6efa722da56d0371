-- What a run of a Verilog file says.
use Rattle.safl_tool.proofs.Common.{HasLine, Refusal, RefusesArguments, RefusesBy, Status, argument_widths, may_give, slice_get_within}
use Rattle.std.proofs.Common.{◌≡◌, ℕ, zero, suc, ◌<◌, List, [], ◌∷◌, map, length, Option, Some, None, false, slice_get, refl, ap, subst, inl, inr}
use Rattle.safl_net.specs.Netlist.{Netlist, Signal}
use Rattle.safl_net.specs.Making.{kind_in, cell_in, name_at}
use Rattle.safl_order.specs.Laws.{LoopsAreCyclic}
use Rattle.safl_order.specs.Order.{operands_in, Leads, IsLoop}
use Rattle.safl_order.specs.Order
use Rattle.safl_verilog.specs.declared.fault.VFault.{VFault}
use Rattle.safl_verilog.specs.Reads.{Reads, HasFault}
use Rattle.safl_tool.specs.CommandTasks.{RefusesNet, RefusesText}
use Rattle.safl_tool.specs.VerilogLines.{verilog_line, loop_line}
use Rattle.safl_tool.specs.Running.{AreKnown, IsRunnable, faulty, looped}
use Rattle.safl_task.specs.declared.status.Status.TheVariants as status
use Rattle.safl_tool.proofs.Refusing.{refuses_more}

-- nothing is given where a text, or its arguments, are refused
pub text_quiet : (name : List ℕ) (args : List (List ℕ)) (text : List ℕ) (s : Status) (line : List ℕ) → RefusesText name args text s line → may_give s ≡ false
text_quiet name args text s line r = elim r [ inl f ↦ ap may_give f.0 | inr m ↦ ap may_give m.0 ]

-- the wires of a loop are signals
reads_known : (n : Netlist) (a b : ℕ) → Order.ReadsSignal n a b → a < length n.signals
reads_known n a b r = by (slice_get n.signals a) refl r.1
  where
    by : (o : Option Signal) → slice_get n.signals a ≡ o → slice_get (operands_in (cell_in (kind_in o))) r.0 ≡ Some b → a < length n.signals
    by None q h = absurd (cc)
    by (Some g) q h = slice_get_within n.signals a g q

leads_known : (n : Netlist) (ws : List ℕ) (t : ℕ) → Leads n ws t → (i s : ℕ) → slice_get ws i ≡ Some s → s < length n.signals
leads_known n [] t l i s e = absurd (cc)
leads_known n (a ∷ []) t l zero s e = let q : a ≡ s = cc in subst (λ k. k < length n.signals) q (reads_known n a t l)
leads_known n (a ∷ []) t l (suc i) s e = absurd (cc)
leads_known n (a ∷ (b ∷ ws)) t l zero s e = let q : a ≡ s = cc in subst (λ k. k < length n.signals) q (reads_known n a b l.0)
leads_known n (a ∷ (b ∷ ws)) t l (suc i) s e = leads_known n (b ∷ ws) t l.1 i s e

pub loop_known : (n : Netlist) (ws : List ℕ) → IsLoop n ws → AreKnown n ws
loop_known n ws l i s e = leads_known n ws l.first l.leads i s e

-- what tells the line of a fault or of a loop refuses the text
pub fault_refuses : (name text : List ℕ) (f : VFault) (r : Refusal) → HasFault text f → RefusesBy (HasLine status.VerilogRefused (verilog_line name text f)) r → RefusesBy (RefusesNet name text) r
fault_refuses name text f r h = refuses_more (HasLine status.VerilogRefused (verilog_line name text f)) (RefusesNet name text) (λ s line is. (is.0, faulty f h is.1)) r

pub loop_refuses : LoopsAreCyclic → (name text : List ℕ) (n : Netlist) (ws : List ℕ) (r : Refusal) → Reads text n → IsLoop n ws → RefusesBy
    (HasLine status.VerilogRefused (loop_line name (map (name_at n) ws))) r → RefusesBy (RefusesNet name text) r
loop_refuses law name text n ws r h l = refuses_more (HasLine status.VerilogRefused (loop_line name (map (name_at n) ws))) (RefusesNet name text)
    (λ s line is. (is.0, looped n ws h l (law n ws l) is.1)) r

pub net_refuses : (name text : List ℕ) (args : List (List ℕ)) (r : Refusal) → RefusesBy (RefusesNet name text) r → RefusesBy (RefusesText name args text) r
net_refuses name text args r = refuses_more (RefusesNet name text) (RefusesText name args text) (λ s line h. inl h) r

pub arguments_refuse : (name text : List ℕ) (args : List (List ℕ)) (n : Netlist) (r : Refusal) → IsRunnable text n → RefusesBy
    (RefusesArguments (argument_widths n.signals) args) r → RefusesBy (RefusesText name args text) r
arguments_refuse name text args n r runs =
    refuses_more (RefusesArguments (argument_widths n.signals) args) (RefusesText name args text) (λ s line h. inr (h.0, (n, runs, h.1))) r
