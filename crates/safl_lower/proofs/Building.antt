-- Nets that are built on nets.
use Rattle.safl_lower.proofs.Common.{AreSources, Builds, Grows, IsSource, IsTidy, Netlist, Sig}
use Rattle.std.proofs.Common.{◌≡◌, ℕ, ◌+◌, ◌≤◌, List, ◌++◌, length, ap, sym, subst, arith}
use Rattle.safl_net.proofs.Growth.{grows_on, grows_same, width_kept, sized_kept, sized_more}
use Rattle.safl_net.proofs.Settling.{settles_same, settles_on, are_steady_on, steady_grown, are_steady_grown, are_steady_more}

pub builds_same : (n m : Netlist) → IsTidy n → m ≡ n → (most : ℕ) → Builds n m most
builds_same n m t e most = record {
  tidy = subst IsTidy (sym e) t;
  grows = grows_same n m e;
  settles = settles_same n m e;
  count = let q = ap (λ (x : Netlist). length x.signals) e in omega (arith, q);
}

pub builds_on : {a b c : Netlist} {j k : ℕ} → Builds a b j → Builds b c k → Builds a c (j + k)
builds_on g h = record {
  tidy = h.tidy;
  grows = grows_on g.grows h.grows;
  settles = settles_on g.settles h.settles;
  count = let p = g.count in let q = h.count in omega (arith, p, q);
}

pub builds_within : {a b : Netlist} {j : ℕ} (k : ℕ) → Builds a b j → j ≤ k → Builds a b k
builds_within k g le = record { tidy = g.tidy; grows = g.grows; settles = g.settles; count = let p = g.count in omega (arith, p, le) }

-- as the net grows
pub source_grown : {a b : Netlist} → Grows a b → (s : Sig) (w : ℕ) → IsSource a s w → IsSource b s w
source_grown g s w h = record { width = width_kept g s.0 w h.width; steady = steady_grown g s.0 h.steady }

pub sources_grown : {a b : Netlist} → Grows a b → (xs : List Sig) (ws : List ℕ) → AreSources a xs ws → AreSources b xs ws
sources_grown g xs ws h = record { widths = sized_kept g xs ws h.widths; steady = are_steady_grown g xs h.steady }

pub sources_joined : (n : Netlist) (xs ys : List Sig) (us ws : List ℕ) → AreSources n xs us → AreSources n ys ws → AreSources n (xs ++ ys) (us ++ ws)
sources_joined n xs ys us ws h k = record { widths = sized_more n xs ys us ws h.widths k.widths; steady = are_steady_more n xs ys h.steady k.steady }

pub source_kept : {a b : Netlist} {k : ℕ} → Builds a b k → {s : Sig} {w : ℕ} → IsSource a s w → IsSource b s w
source_kept h {s} {w} q = record { width = width_kept h.grows s.0 w q.width; steady = h.settles.steady s.0 q.steady }

pub sources_kept : {a b : Netlist} {k : ℕ} → Builds a b k → {xs : List Sig} {ws : List ℕ} → AreSources a xs ws → AreSources b xs ws
sources_kept h {xs} {ws} q = record { widths = sized_kept h.grows xs ws q.widths; steady = are_steady_on h.settles xs q.steady }
