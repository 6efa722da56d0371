-- What the circuit of a term gives, under each valuation that the net allows.
use Rattle.std.specs.Prelude.{◌≡◌, ◌≢◌, ℕ, ◌+◌, ◌-◌, ◌*◌, ◌<◌, ◌≤◌, List, [], ◌∷◌, ◌++◌, map, length, Option, Some, None, Bool, false, not, ◌&&◌, slice_get}
use Rattle.safl_word.specs.Words.{Word}
use Rattle.safl_term.specs.Terms.{Term, Terms}
use Rattle.safl_term.specs.Readiness.{Answer, Ready, LoopTo, NotYet, word_of, or_else, answer, answers, wanted, wanted_in}
use Rattle.safl_net.specs.declared.cell.Sig.{Sig}
use Rattle.safl_net.specs.Netlist.{Netlist}
use Rattle.safl_net.specs.Growth.{Val, words, Wired, Grows}
use Rattle.safl_lower.specs.declared.lowered.SitePorts.{SitePorts}
use Rattle.safl_lower.specs.declared.lowered.SiteTable.{SiteTable}
use Rattle.safl_lower.specs.declared.lowered.Readiness.TheVariants.{Never, When}
use Rattle.safl_lower.specs.declared.lowered.Lowered.{Lowered}
use Rattle.safl_lower.specs.declared.lowered.LoweredAll.{LoweredAll}
use Rattle.safl_lower.specs.declared.lowered.TailCall.{TailCall}
use Rattle.safl_lower.specs.declared.lowered.Want.{Want}
use Rattle.safl_lower.specs.declared.lowered.Out.{Out}
use Rattle.safl_net.specs.Bits.{on, gate}
use Rattle.safl_lower.specs.Bits.{is_ready, ReadyAt}
use Rattle.safl_term.specs.Sizes.{nodes, nodes_in}
use Rattle.safl_lower.specs.Typing.{Owner, Typed, TypedAll, sites_of, sites_in, tails_of}
use Rattle.safl_lower.specs.Entries.{asked, went, Told, site_of, member_of, Mates, OutFits, cost}
use Rattle.safl_lower.specs.Sources.{IsSource, AreSources, HasRoom}
use Rattle.safl_net.specs.Settled.{Settles}

abbrev pub port_of : SiteTable → ℕ → Option SitePorts
port_of P k = slice_get P.ports.items (k - P.first)

-- the word of a site, if it has returned
abbrev pub returned_word : Val → Option SitePorts → Option Word
returned_word v None = None
returned_word v (Some p) = gate (on v p.returned) (Some (v p.value.0))

abbrev pub back_of : Val → SiteTable → ℕ → Option Word
back_of v P k = returned_word v (port_of P k)

-- whether the call of a site was sent
abbrev pub was_sent : Val → Option SitePorts → Bool
was_sent v None = false
was_sent v (Some p) = on v p.sent

abbrev pub sent_of : Val → SiteTable → ℕ → Bool
sent_of v P k = was_sent v (port_of P k)

-- the path is 1, and the call of the site was not sent
abbrev pub open_at : Val → SiteTable → Sig → ℕ → Bool
open_at v P path k = on v path && not (sent_of v P k)

-- the word of a term, if it is ready; and the words of a list of terms, if all are ready
abbrev pub gives : Val → Lowered → Option Word
gives v r = gate (is_ready v r.ready) (Some (v r.value.0))

abbrev pub gathered : Val → LoweredAll → Option (List Word)
gathered v r = gate (is_ready v r.ready) (Some (words v r.values.items))

-- the function to which a body makes a tail call, with the arguments
abbrev pub goes_of : Answer → Option (ℕ × List Word)
goes_of (Ready v) = None
goes_of (LoopTo h vs) = Some (h, vs)
goes_of NotYet = None

-- ---- what is needed

-- the ports of a site are two bits and a word of this width, all of which may be read
pub record Sited (n : Netlist) (p : SitePorts) (w : ℕ) : Type 0 where
  pub sent : IsSource n p.sent 1
  pub returned : IsSource n p.returned 1
  pub value : IsSource n p.value w

pub record HasPorts (n : Netlist) (P : SiteTable) (k : ℕ) : Type 0 where
  pub from : P.first ≤ k
  pub port : SitePorts
  pub at : port_of P k ≡ Some port
  pub sent : IsSource n port.sent 1

-- The path is a bit, the slots have their widths, the ports are those of the owner's sites, each of the width of the called
-- function's result, and the functions of the owner's group have one width.
pub record Setting (n : Netlist) (F : Owner) (P : SiteTable) (slots : List Sig) (env : List ℕ) (path : Sig) : Type 0 where
  pub path_bit : IsSource n path 1
  pub slots_sized : AreSources n slots env
  pub first : P.first ≡ F.first
  pub last : P.first + length P.ports.items ≡ F.last
  pub sites_sized : (i : ℕ) (p : SitePorts) → slice_get P.ports.items i ≡ Some p → Sited n p (F.program.result (F.program.callee (P.first + i)))
  pub one_width : (h : ℕ) → h < F.program.functions → F.program.unit h ≡ F.program.unit F.function → F.program.result h ≡ F.program.result F.function

-- a term in the body of an owner, in a net with room for its circuit
pub record Lowerable (n : Netlist) (P : SiteTable) (slots : List Sig) (path : Sig) (t : Term) : Type 0 where
  pub owner : Owner
  pub tail : Bool
  pub env : List ℕ
  pub width : ℕ
  pub setting : Setting n owner P slots env path
  pub typed : Typed owner tail env t width
  pub room : HasRoom n (31 * nodes t)

pub record LowerableAll (n : Netlist) (P : SiteTable) (slots : List Sig) (path : Sig) (ts : Terms) : Type 0 where
  pub owner : Owner
  pub env : List ℕ
  pub widths : List ℕ
  pub setting : Setting n owner P slots env path
  pub typed : TypedAll owner env ts widths
  pub room : HasRoom n (31 * nodes_in ts)

-- ---- what is made

-- the readiness is a bit, if it has one; and the value has this width, unless it is never ready
pub record Shaped (n : Netlist) (r : Lowered) (w : ℕ) : Type 0 where
  pub ready : ReadyAt n r.ready
  pub width : r.ready ≢ Never → IsSource n r.value w

pub record ShapedAll (n : Netlist) (r : LoweredAll) (ws : List ℕ) : Type 0 where
  pub ready : ReadyAt n r.ready
  pub widths : AreSources n r.values.items ws

-- the circuit of a term, with the calls and tail calls collected before it and after it
pub record Lowers (P : SiteTable) (slots : List Sig) (path : Sig) (old new : Netlist) (o p : Out) (r : Lowered) (t : Term) : Type 0 where
  pub grows : Grows old new
  pub settles : Settles old new
  pub count : length new.signals + 4 ≤ length old.signals + 31 * nodes t
  pub shape : (F : Owner) (tail : Bool) (env : List ℕ) (w : ℕ) → Setting old F P slots env path → Typed F tail env t w → Shaped new r w
  -- outside of tail position the term may become ready; a term that is never ready has the width of the group's results
  pub ever : (F : Owner) (env : List ℕ) (w : ℕ) → Typed F false env t w → r.ready ≢ Never
  pub wide : (F : Owner) (tail : Bool) (env : List ℕ) (w : ℕ) → Setting old F P slots env path → Typed F tail env t w → r.ready ≡ Never
      → w ≡ F.program.result F.function
  -- it is ready if the term is, and then has the term's word
  pub value : (v : Val) → Wired new v → gives v r ≡ word_of (answer (back_of v P) (words v slots) t)
  -- a site is wanted if it was not sent, the path is 1 and the term wants it, with the same words
  pub wants : (F : Owner) (tail : Bool) (env : List ℕ) (w : ℕ) → Typed F tail env t w → (v : Val) → Wired new v → (k : ℕ)
      → asked v p.wants.items k ≡ or_else (asked v o.wants.items k) (gate (open_at v P path k) (wanted (back_of v P) (words v slots) t k))
  -- the first tail call that is made, after those before, is that of the term, if the path is 1 and the term makes one
  pub loops : (F : Owner) (tail : Bool) (env : List ℕ) (w : ℕ) → Typed F tail env t w → (v : Val) → Wired new v
      → went v p.loops.items ≡ or_else (went v o.loops.items) (gate (on v path) (goes_of (answer (back_of v P) (words v slots) t)))
  pub sites : map site_of p.wants.items ≡ map site_of o.wants.items ++ sites_of t
  pub fits : (F : Owner) (tail : Bool) (env : List ℕ) (w : ℕ) → Setting old F P slots env path → Typed F tail env t w → OutFits F old o → OutFits F new p
  pub tails : (F : Owner) (tail : Bool) (env : List ℕ) (w : ℕ) → Typed F tail env t w → map member_of p.loops.items ≡ map member_of o.loops.items ++ tails_of t
  -- outside of tail position there is no tail call
  pub quiet : (F : Owner) (env : List ℕ) (w : ℕ) → Typed F false env t w → p.loops.items ≡ o.loops.items
  pub cheap : (F : Owner) (tail : Bool) (env : List ℕ) (w : ℕ) → Typed F tail env t w → cost p.loops.items ≤ cost o.loops.items + nodes t
  -- each tail call goes to a function of the owner's group
  pub within : (F : Owner) (tail : Bool) (env : List ℕ) (w : ℕ) → Setting old F P slots env path → Typed F tail env t w
      → Mates F (map member_of o.loops.items) → Mates F (map member_of p.loops.items)
  pub more : List TailCall
  pub loops_more : p.loops.items ≡ o.loops.items ++ more
  -- every tail call that is made is that of the term
  pub told : (F : Owner) (tail : Bool) (env : List ℕ) (w : ℕ) → Typed F tail env t w → (v : Val) → Wired new v
      → Told v more (gate (on v path) (goes_of (answer (back_of v P) (words v slots) t)))

-- the circuits of several terms with the same path
pub record LowersAll (P : SiteTable) (slots : List Sig) (path : Sig) (old new : Netlist) (o p : Out) (r : LoweredAll) (ts : Terms) : Type 0 where
  pub grows : Grows old new
  pub settles : Settles old new
  pub count : length new.signals ≤ length old.signals + 31 * nodes_in ts
  pub shape : (F : Owner) (env : List ℕ) (ws : List ℕ) → Setting old F P slots env path → TypedAll F env ts ws → ShapedAll new r ws
  pub ever : (F : Owner) (env : List ℕ) (ws : List ℕ) → TypedAll F env ts ws → r.ready ≢ Never
  pub value : (v : Val) → Wired new v → gathered v r ≡ answers (back_of v P) (words v slots) ts
  pub wants : (F : Owner) (env : List ℕ) (ws : List ℕ) → TypedAll F env ts ws → (v : Val) → Wired new v → (k : ℕ)
      → asked v p.wants.items k ≡ or_else (asked v o.wants.items k) (gate (open_at v P path k) (wanted_in (back_of v P) (words v slots) ts k))
  pub loops : (F : Owner) (env : List ℕ) (ws : List ℕ) → TypedAll F env ts ws → (v : Val) → Wired new v → went v p.loops.items ≡ went v o.loops.items
  pub sites : map site_of p.wants.items ≡ map site_of o.wants.items ++ sites_in ts
  pub fits : (F : Owner) (env : List ℕ) (ws : List ℕ) → Setting old F P slots env path → TypedAll F env ts ws → OutFits F old o → OutFits F new p
  pub quiet : (F : Owner) (env : List ℕ) (ws : List ℕ) → TypedAll F env ts ws → p.loops.items ≡ o.loops.items
  pub long : length r.values.items ≤ nodes_in ts
  pub more : List TailCall
  pub loops_more : p.loops.items ≡ o.loops.items ++ more
  pub told : (F : Owner) (env : List ℕ) (ws : List ℕ) → TypedAll F env ts ws → (v : Val) → Wired new v → Told v more None

-- ---- a call and a tail call

-- the circuit of a call shows what the ports of its site show
pub record ShowsPort (P : SiteTable) (k : ℕ) (r : Lowered) : Type 0 where
  pub port : SitePorts
  pub at : port_of P k ≡ Some port
  pub is : r ≡ record { ready = When port.returned; value = port.value }

abbrev pub goes_with : ℕ → Option (List Word) → Option (ℕ × List Word)
goes_with h None = None
goes_with h (Some vs) = Some (h, vs)

-- one more call; and one more tail call
pub record Enters (n : Netlist) (o p : List Want) (k : ℕ) (all : LoweredAll) : Type 0 where
  pub want : Sig
  pub is : p ≡ o ++ record { site = k; want = want; args = all.values } ∷ []
  pub bit : IsSource n want 1

pub record Leaves (n : Netlist) (o p : List TailCall) (path : Sig) (h : ℕ) (all : LoweredAll) : Type 0 where
  pub taken : Sig
  pub made : (v : Val) → Wired n v → on v taken ≡ (on v path && is_ready v all.ready)
  pub is : p ≡ o ++ record { member = h; taken = taken; args = all.values } ∷ []
  pub bit : IsSource n taken 1
