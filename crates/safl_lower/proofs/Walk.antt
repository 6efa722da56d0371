-- The last step of each kind of term in the walk down a body.
use Rattle.safl_lower.proofs.Common.{Builds, IsSource, Lowered, LoweredAll, Netlist, Never, Out, Readiness, Sig, SiteTable, Val, Wired}
use Rattle.safl_lower.proofs.Common.{asked, gate, grows_on, holds_calls, is_ready, on, or_else, went}
use Rattle.std.proofs.Common.{◌≡◌, ℕ, List, ◌⊎◌, cond, ◌==◌, true, Result, Ok, Err, IfOk, OnOk, sym, subst}
use Rattle.safl_term.specs.Terms.{Term, Terms, If, Let, Call, Loop}
use Rattle.safl_lower.specs.declared.joins.Paths.{Paths}
use Rattle.safl_lower.specs.Lowering.{gives, gathered, open_at, Shaped, Lowerable, LowerableAll, Lowers, LowersAll, ShowsPort, goes_with, Enters, Leaves}
use Rattle.safl_lower.proofs.Branches.{Branches, Inner, lowers_if}
use Rattle.safl_lower.proofs.Calls.{lowers_call, lowers_loop}
use Rattle.safl_lower.proofs.Able.{call_shape}
use Rattle.safl_lower.specs.Joining.{is_reached, selects_yes, selects_no}

-- the same of a term that is equal, and of another name of the slots
module _ {P : SiteTable} {slots : List Sig} {path : Sig} {n : Netlist} where
  pub able_by : {t u : Term} → t ≡ u → Lowerable n P slots path t → Lowerable n P slots path u
  able_by e h = subst (λ (x : Term). Lowerable n P slots path x) e h

  pub able_all_by : {ts us : Terms} → ts ≡ us → LowerableAll n P slots path ts → LowerableAll n P slots path us
  able_all_by e h = subst (λ (x : Terms). LowerableAll n P slots path x) e h

  pub able_in : {s : List Sig} {t : Term} → s ≡ slots → Lowerable n P slots path t → Lowerable n P s path t
  able_in {s} {t} e h = subst (λ (l : List Sig). Lowerable n P l path t) (sym e) h

module _ {P : SiteTable} {path : Sig} {n m : Netlist} {o p : Out} {r : Lowered} where
  pub lowers_by : {slots : List Sig} {t u : Term} → t ≡ u → Lowers P slots path n m o p r u → Lowers P slots path n m o p r t
  lowers_by {slots} e h = subst (λ (x : Term). Lowers P slots path n m o p r x) (sym e) h

  pub lowers_in : {s slots : List Sig} {t : Term} → s ≡ slots → Lowers P s path n m o p r t → Lowers P slots path n m o p r t
  lowers_in {s} {slots} {t} e h = subst (λ (l : List Sig). Lowers P l path n m o p r t) e h

-- the paths of the branches of an if, and of the body of a let
pub branches : {t c a b : Term} {n m : Netlist} → t ≡ If c a b → (path : Sig) (test : Lowered) (paths : Paths)
    → Builds n m 4
    → IsSource m paths.yes 1 × IsSource m paths.no 1
    → (holds_calls a ≡ true → (v : Val) → Wired m v → on v paths.yes ≡ selects_yes v path test)
    → (holds_calls b ≡ true → (v : Val) → Wired m v → on v paths.no ≡ selects_no v path test)
    → Branches path n m test a b paths.yes paths.no
branches e path test paths d w y z = record { grows = d.grows; count = d.count; settles = d.settles; yes_bit = w.0; no_bit = w.1; yes_on = y; no_on = z }

pub body_in : {t b : Term} {ts : Terms} {n m : Netlist} → t ≡ Let ts b → (path : Sig) (ready : Readiness) (inner : Sig)
    → Builds n m 1
    → IsSource m inner 1
    → (holds_calls b ≡ true → (v : Val) → Wired m v → on v inner ≡ is_reached v path ready)
    → Inner path n m b ready inner
body_in e path ready inner d w y = record { grows = d.grows; count = d.count; settles = d.settles; bit = w; is = y }

pub done_if : {E : Type 0} {P : SiteTable} {slots : List Sig} {path py pn : Sig} {n0 n1 n2 n3 n4 n5 : Netlist} {o0 o1 o2 o3 : Out} {test yes no : Lowered} {c a b t : Term} (res : Result Lowered E)
    → t ≡ If c a b
    → Lowers P slots path n0 n1 o0 o1 test c → Branches path n1 n2 test a b py pn → Lowers P slots py n2 n3 o1 o2 yes a → Lowers P slots pn n3 n4 o2 o3 no b
    → Builds n4 n5 5
    → ((w : ℕ) → Shaped n4 yes w → Shaped n4 no w → IfOk res (λ r. Shaped n5 r w))
    → IfOk res (λ r. (v : Val) → Wired n5 v → gives v r ≡ gate (is_ready v test.ready) (cond (on v test.value) (gives v yes) (gives v no)))
    → IfOk res (λ r. r.ready ≡ Never → (test.ready ≡ Never) ⊎ ((yes.ready ≡ Never) × (no.ready ≡ Never)))
    → IfOk res (λ r. Lowers P slots path n0 n5 o0 o3 r t)
done_if {P = P} {slots = slots} {path = path} {n0 = n0} {n5 = n5} {o0 = o0} {o3 = o3} (Ok r) e hc hp ha hb b s v q =
    subst (λ (x : Term). Lowers P slots path n0 n5 o0 o3 r x) (sym e) (lowers_if hc hp ha hb (record { grows = b.grows; count = b.count; settles = b.settles; shape = s; value = v; never = q }))
done_if (Err x) e hc hp ha hb b s v q = tt

pub done_call : {E : Type 0} {P : SiteTable} {slots : List Sig} {path : Sig} {n0 n1 n2 : Netlist} {o0 o1 : Out} (o2 : Out) {all : LoweredAll} (f k : ℕ) {ts : Terms} {t : Term} (res : Result Lowered E)
    → t ≡ Call f k ts
    → LowersAll P slots path n0 n1 o0 o1 all ts
    → Builds n1 n2 3
    → IfOk res (λ r. ShowsPort P k r)
    → IfOk res (λ _. Enters n2 o1.wants.items o2.wants.items k all)
    → OnOk res (o2.loops.items ≡ o1.loops.items)
    → IfOk res (λ r. (v : Val) → Wired n2 v → (j : ℕ) → asked v o2.wants.items j ≡ or_else (asked v o1.wants.items j) (gate (k == j) (gate (open_at v P path k) (gathered v all))))
    → IfOk res (λ r. Lowers P slots path n0 n2 o0 o2 r t)
done_call {P = P} {slots = slots} {path = path} {n0 = n0} {n2 = n2} {o0 = o0} o2 f k (Ok r) e hs b sh en lo wa =
    subst (λ (x : Term). Lowers P slots path n0 n2 o0 o2 r x) (sym e)
    (lowers_call hs (record { grows = b.grows; count = b.count; settles = b.settles; given = sh; entry = en; loops = lo; wants = wa })
    (λ F tail env w s q. call_shape F tail env w (grows_on hs.grows b.grows) sh s q))
done_call o2 f k (Err x) e hs b sh en lo wa = tt

pub done_loop : {E : Type 0} {P : SiteTable} {slots : List Sig} {path : Sig} {n0 n1 n2 : Netlist} {o0 o1 : Out} (o2 : Out) {all : LoweredAll} {h : ℕ} {ts : Terms} {t : Term} (res : Result Lowered E)
    → t ≡ Loop h ts
    → LowersAll P slots path n0 n1 o0 o1 all ts
    → Builds n1 n2 1
    → IfOk res (λ r. r.ready ≡ Never)
    → IfOk res (λ _. Leaves n2 o1.loops.items o2.loops.items path h all)
    → OnOk res (o2.wants.items ≡ o1.wants.items)
    → IfOk res (λ r. (v : Val) → Wired n2 v → went v o2.loops.items ≡ or_else (went v o1.loops.items) (gate (on v path) (goes_with h (gathered v all))))
    → IfOk res (λ r. Lowers P slots path n0 n2 o0 o2 r t)
done_loop {P = P} {slots = slots} {path = path} {n0 = n0} {n2 = n2} {o0 = o0} o2 (Ok r) e hs b ne en wa lo =
    subst (λ (x : Term). Lowers P slots path n0 n2 o0 o2 r x) (sym e)
    (lowers_loop hs (record { grows = b.grows; count = b.count; settles = b.settles; entry = en; never = ne; wants = wa; loops = lo }))
done_loop o2 (Err x) e hs b ne en wa lo = tt
