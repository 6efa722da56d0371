-- The circuit of a function's body, under each valuation that the net allows.
use Rattle.std.specs.Prelude.{◌≡◌, ℕ, suc, ◌+◌, ◌-◌, ◌*◌, ◌<◌, ◌≤◌, List, [], ◌∷◌, length, Option, Some, None, Bool, not, ◌&&◌, slice_get}
use Rattle.safl_word.specs.Words.{Word}
use Rattle.safl_term.specs.Program.{Program}
use Rattle.safl_term.specs.Checked.{CheckedProgram}
use Rattle.safl_term.specs.Sizes.{nodes}
use Rattle.safl_term.specs.Readiness.{Answer, word_of, answer, wanted}
use Rattle.safl_net.specs.Netlist.{Netlist}
use Rattle.safl_net.specs.Growth.{Val, words, Wired}
use Rattle.safl_net.specs.Bits.{on, gate}
use Rattle.safl_lower.specs.Sources.{IsSource, AreSources, Builds, HasRoom}
use Rattle.safl_lower.specs.Tables.{entry_in, taken, taken_at, taken_from, one_word, LoadFits, LoadsFit, SomeFit}
use Rattle.safl_lower.specs.declared.lowered.SitePorts.{SitePorts}
use Rattle.safl_lower.specs.declared.lowered.Ports.{Ports}
use Rattle.safl_lower.specs.declared.lowered.Body.{Body}
use Rattle.safl_lower.specs.Typing.{tails_of}
use Rattle.safl_lower.specs.Lowering.{Sited, returned_word, was_sent, goes_of}
use Rattle.safl_lower.specs.Loads.{Listed, to_member, loads_cost}

-- The body of f may be lowered between these ports: they have the widths of its parameters and of the words of its sites, and the
-- net has room for the circuit.
pub record CanLower (c : CheckedProgram) (f : ℕ) (n : Netlist) (P : Ports) : Type 0 where
  pub run : IsSource n P.run 1
  pub args : AreSources n P.args.items (c.program.params f)
  pub count : c.first_site f + length P.sites.items ≡ c.first_site (suc f)
  pub sites : (i : ℕ) (p : SitePorts) → slice_get P.sites.items i ≡ Some p → Sited n p (c.program.result (c.program.callee (c.first_site f + i)))
  pub room : HasRoom n (32 * nodes (c.program.body f) + 32)

-- the group of f has `count` functions, numbered from its unit on
pub record IsGroup (C : Program) (f count : ℕ) : Type 0 where
  pub within : C.unit f + count ≤ C.functions
  pub inside : (h : ℕ) → C.unit f ≤ h → h < C.unit f + count → C.unit h ≡ C.unit f
  pub members : (h : ℕ) → h < C.functions → C.unit h ≡ C.unit f → (C.unit f ≤ h) × (h < C.unit f + count)

-- all functions of f's group are numbered from its unit on, and below this number
abbrev pub GroupIsBelow : Program → ℕ → ℕ → Type 0
GroupIsBelow C f end = (h : ℕ) → h < C.functions → C.unit h ≡ C.unit f → (C.unit f ≤ h) × (h < end)

-- the end has the body's width, the arguments of a site have the widths of the called function's parameters, and the arguments
-- for a function of the group those of its parameters
pub record BodyFits (c : CheckedProgram) (f : ℕ) (n : Netlist) (b : Body) : Type 0 where
  pub end : LoadFits n b.end (c.program.result f ∷ [])
  pub wants : LoadsFit n b.wants.items (λ i. c.program.params (c.program.callee (c.first_site f + i)))
  pub loops : SomeFit n b.loops.items (λ i. c.program.params (c.program.unit f + i))

-- what the ports show of site k, where the ports begin with site `first`: its word if it has returned; and whether it was sent
abbrev pub back_at : Val → ℕ → List SitePorts → ℕ → Option Word
back_at v first sites k = returned_word v (slice_get sites (k - first))

abbrev pub sent_at : Val → ℕ → List SitePorts → ℕ → Bool
sent_at v first sites k = was_sent v (slice_get sites (k - first))

-- the answer of f's body and the arguments with which it wants site k, given what the ports show
abbrev pub answer_at : CheckedProgram → ℕ → Val → Ports → Answer
answer_at c f v P = answer (back_at v (c.first_site f) P.sites.items) (words v P.args.items) (c.program.body f)

abbrev pub wanted_at : CheckedProgram → ℕ → Val → Ports → ℕ → Option (List Word)
wanted_at c f v P k = wanted (back_at v (c.first_site f) P.sites.items) (words v P.args.items) (c.program.body f) k

-- the circuit of f's body between these ports
pub record IsLowered (c : CheckedProgram) (f : ℕ) (P : Ports) (old new : Netlist) (b : Body) : Type 0 where
  pub built : Builds old new (32 * nodes (c.program.body f) + 32)
  -- there is a load for each site in the body, and a place for each function of the group
  pub count : c.first_site f + length b.wants.items ≡ c.first_site (suc f)
  pub group : IsGroup c.program f (length b.loops.items)
  pub fits : BodyFits c f new b
  -- a function of the group to which the body makes no tail call has no load
  pub idle : (i : ℕ) → ¬ Listed (c.program.unit f + i) (tails_of (c.program.body f)) → entry_in (slice_get b.loops.items i) ≡ None
  -- the bits and arguments of the tail calls are no more than the body has terms
  pub tails : loads_cost b.loops.items ≤ nodes (c.program.body f)
  -- the body ends if it runs and is ready, with its word
  pub end : (v : Val) → Wired new v → taken v b.end ≡ one_word (gate (on v P.run) (word_of (answer_at c f v P)))
  -- a site in the body is wanted if the body runs and wants it, and it was not sent; the arguments are the words of the body
  pub wants : (v : Val) → Wired new v → (i : ℕ) → taken_at v b.wants.items i
      ≡ gate (on v P.run && not (sent_at v (c.first_site f) P.sites.items (c.first_site f + i))) (wanted_at c f v P (c.first_site f + i))
  -- a tail call to a function is made if the body runs and makes it, with the same words
  pub loops : (v : Val) → Wired new v → (i : ℕ) → taken_from v b.loops.items i
      ≡ gate (on v P.run) (to_member (c.program.unit f + i) (goes_of (answer_at c f v P)))
