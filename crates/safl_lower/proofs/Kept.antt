-- What stays as the net grows, and one more call or tail call.
use Rattle.safl_lower.proofs.Common.{Always, AreSources, Grows, IsSource, Lowered, LoweredAll, Netlist, Never, Owner, Readiness, ReadyAt}
use Rattle.safl_lower.proofs.Common.{Sig, SitePorts, SiteTable, TailCall, Val, Want, When, Word, gate, or_else, or_else_assoc, or_else_none}
use Rattle.std.proofs.Common.{◌≡◌, ℕ, ◌+◌, List, [], ◌∷◌, ◌++◌, Option, Some, Bool, true, false, ◌&&◌, Result, Ok, Err, IfOk, refl, sym, ap, ◌∙◌}
use Rattle.safl_lower.specs.Entries.{asks, asked, goes, went}
use Rattle.safl_lower.specs.Lowering.{Sited, Setting, Shaped, ShapedAll, goes_with}
use Rattle.safl_lower.proofs.Building.{source_grown, sources_grown, sources_joined}

pub ready_kept : {a b : Netlist} → Grows a b → (r : Readiness) → ReadyAt a r → ReadyAt b r
ready_kept g Always h = tt
ready_kept g Never h = tt
ready_kept g (When s) h = source_grown g s 1 h

-- always and never are two
pub apart : {A : Type 0} → Always ≡ Never → A
apart e = cc

pub shaped_kept : {a b : Netlist} → Grows a b → (r : Lowered) (w : ℕ) → Shaped a r w → Shaped b r w
shaped_kept g r w h = record { ready = ready_kept g r.ready h.ready; width = λ ever. source_grown g r.value w (h.width ever) }

pub shaped_all_kept : {a b : Netlist} → Grows a b → (r : LoweredAll) (ws : List ℕ) → ShapedAll a r ws → ShapedAll b r ws
shaped_all_kept g r ws h = record { ready = ready_kept g r.ready h.ready; widths = sources_grown g r.values.items ws h.widths }

-- what holds of a signal, and what follows from it
pub weaker : {E : Type 0} (r : Result Sig E) (P Q : Sig → Type 0) → ((s : Sig) → P s → Q s) → IfOk r P → IfOk r Q
weaker (Ok s) P Q f h = f s h
weaker (Err e) P Q f h = tt

-- ---- sites

pub sited_kept : {a b : Netlist} → Grows a b → (p : SitePorts) (w : ℕ) → Sited a p w → Sited b p w
sited_kept g p w h = record { sent = source_grown g p.sent 1 h.sent; returned = source_grown g p.returned 1 h.returned; value = source_grown g p.value w h.value }

pub setting_on : {a b : Netlist} {F : Owner} {P : SiteTable} {slots : List Sig} {env : List ℕ} {path q : Sig} → Grows a b → Setting a F P slots env path → IsSource b q 1 → Setting b F P slots env q
setting_on {F = F} {P = P} {slots = slots} {env = env} g s h = record {
  path_bit = h;
  slots_sized = sources_grown g slots env s.slots_sized;
  first = s.first;
  last = s.last;
  sites_sized = λ i p e. sited_kept g p (F.program.result (F.program.callee (P.first + i))) (s.sites_sized i p e);
  one_width = s.one_width;
}

pub setting_kept : {a b : Netlist} {F : Owner} {P : SiteTable} {slots : List Sig} {env : List ℕ} {path : Sig} → Grows a b → Setting a F P slots env path → Setting b F P slots env path
setting_kept {path = path} g s = setting_on g s (source_grown g path 1 s.path_bit)

-- below a let, on the path of its body
pub setting_below : {a b : Netlist} {F : Owner} {P : SiteTable} {slots : List Sig} {env : List ℕ} {path q : Sig} (xs : List Sig) (ws : List ℕ) → Grows
    a b → Setting a F P slots env path → IsSource b q 1 → AreSources b xs ws → Setting b F P (slots ++ xs) (env ++ ws) q
setting_below {b = b} {slots = slots} {env = env} xs ws g s h z =
    let k = setting_on g s h in
    record { path_bit = h; slots_sized = sources_joined b slots xs env ws k.slots_sized z; first = k.first; last = k.last; sites_sized = k.sites_sized; one_width = k.one_width }

-- ---- one more want, one more tail call

pub asked_end : (v : Val) (es : List Want) (e : Want) (j : ℕ) → asked v (es ++ e ∷ []) j ≡ or_else (asked v es j) (asks v e j)
asked_end v [] e j = or_else_none (asks v e j)
asked_end v (x ∷ es) e j = ap (or_else (asks v x j)) (asked_end v es e j) ∙ sym (or_else_assoc (asks v x j) (asked v es j) (asks v e j))

pub went_end : (v : Val) (es : List TailCall) (e : TailCall) → went v (es ++ e ∷ []) ≡ or_else (went v es) (goes v e)
went_end v [] e = or_else_none (goes v e)
went_end v (x ∷ es) e = ap (or_else (goes v x)) (went_end v es e) ∙ sym (or_else_assoc (goes v x) (went v es) (goes v e))

pub three_gates : {A : Type 0} (a w b r : Bool) (x : Option A) → w ≡ (b && r) → gate (a && w) x ≡ gate a (gate b (gate r x))
three_gates false w b r x e = refl
three_gates true w true r x e = ap (λ (t : Bool). gate t x) e
three_gates true w false r x e = ap (λ (t : Bool). gate t x) e

pub goes_gate : (h : ℕ) (ws : List Word) (w b r : Bool) → w ≡ (b && r) → gate w (Some (h, ws)) ≡ gate b (goes_with h (gate r (Some ws)))
goes_gate h ws w true true e = ap (λ (t : Bool). gate t (Some (h, ws))) e
goes_gate h ws w true false e = ap (λ (t : Bool). gate t (Some (h, ws))) e
goes_gate h ws w false r e = ap (λ (t : Bool). gate t (Some (h, ws))) e
