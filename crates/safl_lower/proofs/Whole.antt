-- The circuit of a body from that of its term.
use Rattle.safl_lower.proofs.Common.{Builds, Grows, LoadFits, Lowered, Netlist, Never, Out, Owner, Ports, ReadyAt, Sig, SitePorts}
use Rattle.safl_lower.proofs.Common.{SiteTable, TailCall, Val, Want, Wired, Word, gate, grows_on, nodes, on, one_word, settles_on, sites_of}
use Rattle.safl_lower.proofs.Common.{tails_of, taken, wired_before, words}
use Rattle.std.proofs.Common.{Vec, Global, ◌≡◌, ℕ, ◌+◌, ◌<◌, ◌≤◌, List, [], ◌∷◌, ◌++◌, map, length, Option, Bool, true, false, refl, sym, ap, subst, ◌∙◌, arith}
use Rattle.safl_term.specs.Terms.{Term}
use Rattle.safl_term.specs.Checked.{CheckedProgram, IsChecked}
use Rattle.safl_term.specs.Readiness.{answer, wanted, or_else}
use Rattle.safl_lower.proofs.KnownLoads.{load_kept}
use Rattle.safl_lower.specs.declared.lowered.Body.{Body}
use Rattle.safl_lower.specs.Entries.{asked, went, Told, site_of, member_of, Between, Mates, OutFits, WantsFit, LoopsFit, cost}
use Rattle.safl_lower.specs.Lowering.{back_of, open_at, gives, goes_of, Shaped, Lowerable, Lowers}
use Rattle.safl_lower.specs.Loads.{Apart, Listed, to_member, Spreads, Merged}
use Rattle.safl_lower.specs.Bodies.{CanLower, IsGroup, IsLowered}
use Rattle.safl_lower.proofs.Typing.{places}
use Rattle.safl_lower.proofs.Gathered.{wants_kept, loops_kept}
use Rattle.safl_lower.proofs.Members.{member_told}
use Rattle.safl_lower.proofs.FromProgram.{IsBody, Given, owner_of, table_of, own_body, own_setting, own_given}

pub lowerable : {n : Netlist} {P : SiteTable} {slots : List Sig} {path : Sig} {t : Term} → Given n P slots path t → Lowerable n P slots path t
lowerable {t = t} h = record { owner = h.owner; tail = true; env = h.env; width = h.width; setting = h.setting; typed = h.body.typed; room = let r = h.room in omega (arith, r) }

-- the calls of a body are those of its sites
pub sites_first : {P : SiteTable} {slots : List Sig} {path : Sig} {n m : Netlist} {o p : Out} {r : Lowered} {t : Term} → o.wants.items ≡ [] → Lowers P
    slots path n m o p r t → map site_of p.wants.items ≡ sites_of t
sites_first {t = t} e h = h.sites ∙ ap (λ (l : List Want). map site_of l ++ sites_of t) e

empty_fits : (F : Owner) (n : Netlist) (o : Out) → o.wants.items ≡ [] → o.loops.items ≡ [] → OutFits F n o
empty_fits F n o e f = record { wants = subst (WantsFit F n) (sym e) tt; loops = subst (LoopsFit F n) (sym f) tt }

-- each site of the interval is called
all_listed : (F : Owner) (P : SiteTable) (env : List ℕ) (w : ℕ) (t : Term) (es : List Want) → map site_of es ≡ sites_of t → P.first ≡ F.first →
    P.first + length P.ports.items ≡ F.last → IsBody F env t w → (i : ℕ) → i < length P.ports.items → Listed (P.first + i) (map site_of es)
all_listed F P env w t es e first last b i l =
    let low : b.typed.low ≡ P.first = b.from ∙ sym first in
    let high : b.typed.high ≡ P.first + length P.ports.items = b.upto ∙ sym last in
    subst (Listed (P.first + i)) (sym e) ((places F.program F.function true b.typed.low b.typed.high t b.typed.spans).listed (P.first + i) (omega (arith, low)) (omega (arith, high, l)))

mates_between : (F : Owner) (a b : ℕ) (ks : List ℕ) → ((g : ℕ) → g < F.program.functions → F.program.unit g ≡ F.program.unit F.function → (a ≤ g) × (g < b)) → Mates F ks → Between a b ks
mates_between F a b [] inside h = tt
mates_between F a b (k ∷ ks) inside h = let m = inside k h.0 h.1 in (m.0, m.1, mates_between F a b ks inside h.2)

module _ {P : SiteTable} {slots : List Sig} {path : Sig} {n0 n1 : Netlist} {o p : Out} {r : Lowered} {t : Term} (ew : o.wants.items ≡ [])
    (el : o.loops.items ≡ []) (c : Given n0 P slots path t) (h : Lowers P slots path n0 n1 o p r t) where
  pub spread_apart : Apart (map site_of p.wants.items)
  spread_apart = let b = c.body.typed in subst Apart (sym (sites_first ew h)) (places c.owner.program c.owner.function true b.low b.high t b.spans).apart

  pub spread_within : Between P.first (P.first + length P.ports.items) (map site_of p.wants.items)
  spread_within =
      let b = c.body.typed in
      let s = c.setting in
      let low : P.first ≡ b.low = s.first ∙ sym c.body.from in
      let high : P.first + length P.ports.items ≡ b.high = s.last ∙ sym c.body.upto in
      subst (λ (i : ℕ). Between i (P.first + length P.ports.items) (map site_of p.wants.items)) (sym low)
      (subst (λ (i : ℕ). Between b.low i (map site_of p.wants.items)) (sym high)
      (subst (Between b.low b.high) (sym (sites_first ew h)) (places c.owner.program c.owner.function true b.low b.high t b.spans).between))

  pub spread_called : (i : ℕ) → i < length P.ports.items → Listed (P.first + i) (map site_of p.wants.items)
  spread_called = all_listed c.owner P c.env c.width t p.wants.items (sites_first ew h) c.setting.first c.setting.last c.body

  pub merge_fit : (n : Netlist) → Grows n1 n → (F : Owner) × LoopsFit F n p.loops.items
  merge_fit n g = (c.owner, loops_kept c.owner p.loops.items g (h.fits c.owner true c.env c.width c.setting c.body.typed (empty_fits c.owner n0 o ew el)).loops)

  pub merge_cost : cost p.loops.items ≤ nodes t
  merge_cost = let i = h.cheap c.owner true c.env c.width c.body.typed in let j = ap cost el in omega (arith, i, j)

  pub result_ready : ReadyAt n1 r.ready
  result_ready = (h.shape c.owner true c.env c.width c.setting c.body.typed).ready

-- each tail call of a function's body goes to a member of its group
pub merge_within : (c : CheckedProgram) (hc : IsChecked c) (f : ℕ) (l : f < c.program.functions) (P : Ports) {n0 n1 : Netlist} {o p : Out} {r : Lowered} → CanLower c f n0 P → o.loops.items ≡ []
    → Lowers (table_of c f P) P.args.items P.run n0 n1 o p r (c.program.body f)
    → (a b : ℕ) → ((g : ℕ) → g < c.program.functions → c.program.unit g ≡ c.program.unit f → (a ≤ g) × (g < b)) → Between a b (map member_of p.loops.items)
merge_within c hc f l P {n0} {n1} {o} {p} {r} able el h a b inside =
    mates_between (owner_of c f) a b (map member_of p.loops.items) inside
    (h.within (owner_of c f) true (c.program.params f) (c.program.result f) (own_setting c hc f l n0 P able) (own_body c hc f l).typed
    (subst (λ (q : List TailCall). Mates (owner_of c f) (map member_of q)) (sym el) tt))

to_gate : (h : ℕ) (b : Bool) (x : Option (ℕ × List Word)) → to_member h (gate b x) ≡ gate b (to_member h x)
to_gate h true x = refl
to_gate h false x = refl

-- the same of another name of the first site's number and of the term
pub renumbered : {sites : Vec SitePorts Global} {slots : List Sig} {path : Sig} {n m : Netlist} {o p : Out} {r : Lowered} {x y : Term} (k j : ℕ) → k ≡ j → x ≡ y
    → Lowers (record { first = k; ports = sites }) slots path n m o p r x → Lowers (record { first = j; ports = sites }) slots path n m o p r y
renumbered {sites} {slots} {path} {n} {m} {o} {p} {r} {x} {y} k j e f h =
    subst (λ (i : ℕ). Lowers (record { first = i; ports = sites }) slots path n m o p r y) e (subst (λ (t : Term). Lowers (record { first = k; ports = sites }) slots path n m o p r t) f h)

-- ---- the circuit of a function's body

module _ (c : CheckedProgram) (hc : IsChecked c) (f : ℕ) (l : f < c.program.functions) (P : Ports) {n0 n1 n2 n3 : Netlist} {o p : Out} {r : Lowered} (b : Body) (width count : ℕ)
    (ew : o.wants.items ≡ []) (el : o.loops.items ≡ []) (able : CanLower c f n0 P) (h : Lowers (table_of c f P) P.args.items P.run n0 n1 o p r (c.program.body f))
    (ended : Builds n1 n2 2) (wide : (w : ℕ) → Shaped n1 r w → (r.ready ≡ Never → w ≡ width) → LoadFits n2 b.end (w ∷ [])) (same : width ≡ c.program.result f)
    (is : (v : Val) → Wired n2 v → taken v b.end ≡ one_word (gate (on v P.run) (gives v r)))
    (sp : Spreads (c.first_site f) (length P.sites.items) p.wants.items b.wants.items)
    (group : IsGroup c.program f count)
    (joined : Builds n2 n3 (cost p.loops.items)) (me : Merged (c.program.unit f) count n2 n3 p.loops.items b.loops.items) where
  before : (v : Val) → Wired n3 v → Wired n1 v
  before v w = wired_before ended.grows (wired_before joined.grows w)

  out_fits : OutFits (owner_of c f) n1 p
  out_fits = h.fits (owner_of c f) true (c.program.params f) (c.program.result f) (own_setting c hc f l n0 P able) (own_body c hc f l).typed (empty_fits (owner_of c f) n0 o ew el)

  pub lowered : IsLowered c f P n0 n3 b
  lowered =
      let F = owner_of c f in
      let env = c.program.params f in
      let w = c.program.result f in
      let st = own_setting c hc f l n0 P able in
      let ty = (own_body c hc f l).typed in
      record {
        built = record {
          tidy = joined.tidy;
          grows = grows_on h.grows (grows_on ended.grows joined.grows);
          settles = settles_on h.settles (settles_on ended.settles joined.settles);
          count = let i = h.count in let j = merge_cost ew el (own_given c hc f l n0 P able) h in let c2 = ended.count in let c3 = joined.count in omega (arith, i, j, c2, c3);
        };
        count = ap (λ (n : ℕ). c.first_site f + n) sp.size ∙ able.count;
        group = subst (IsGroup c.program f) (sym me.size) group;
        fits = record {
          end = load_kept joined (wide w (h.shape F true env w st ty) (λ no. h.wide F true env w st ty no ∙ sym same));
          wants = sp.fits F n3 (wants_kept F p.wants.items (grows_on ended.grows joined.grows) out_fits.wants);
          loops = me.fits F (loops_kept F p.loops.items ended.grows out_fits.loops);
        };
        idle = λ i no.
            let to = h.tails F true env w ty ∙ ap (λ (q : List TailCall). map member_of q ++ tails_of (c.program.body f)) el in
            me.idle i (λ q. no (subst (Listed (c.program.unit f + i)) to q));
        tails = let i = h.cheap F true env w ty in let j = ap cost el in let k = me.paid in omega (arith, i, j, k);
        end = λ v w3. is v (wired_before joined.grows w3) ∙ ap (λ (x : Option Word). one_word (gate (on v P.run) x)) (h.value v (before v w3));
        wants = λ v w3 i.
            let k = c.first_site f + i in
            sp.told v i ∙ h.wants F true env w ty v (before v w3) k
            ∙ ap (λ (q : List Want). or_else (asked v q k) (gate (open_at v (table_of c f P) P.run k) (wanted (back_of v (table_of c f P)) (words v P.args.items) (c.program.body f) k))) ew;
        loops = λ v w3 i.
            let k = c.program.unit f + i in
            let a = goes_of (answer (back_of v (table_of c f P)) (words v P.args.items) (c.program.body f)) in
            let x = gate (on v P.run) a in
            let told = subst (λ (q : List TailCall). Told v q x) (sym (h.loops_more ∙ ap (λ (q : List TailCall). q ++ h.more) el)) (h.told F true env w ty v (before v w3)) in
            let first = h.loops F true env w ty v (before v w3) ∙ ap (λ (q : List TailCall). or_else (went v q) x) el in
            me.told v w3 i ∙ member_told v p.loops.items x k told first ∙ to_gate k (on v P.run) a;
      }
