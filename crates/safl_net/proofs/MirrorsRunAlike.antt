-- Runs with the same inputs show the same.
use Rattle.safl_net.proofs.Common.{IsNetlist, IsTidy, is_temp, one_wire}
use Rattle.std.proofs.Common.{◌≡◌, ℕ, List, [], ◌∷◌, map, Option, Some, false, slice_get, slice_index, sym, ap, subst, ◌∙◌}
use Rattle.safl_net.specs.Netlist.{Netlist, Signal, Reg, AllSet}
use Rattle.safl_net.specs.Valuations.{Valuation, Fits, IsAcyclic, Holds, reset_state, reset_number, kind_reset, next_state, read, read_next, next_at}
use Rattle.safl_net.proofs.OneValuation.{one_valuation}
use Rattle.safl_net.proofs.Reading.{read_word, place_of}
use Rattle.safl_net.specs.Mirrors.{Line, inputs_in, Alike, ShowsCycle, Mirrors}
use Rattle.safl_net.specs.MirrorRuns.{numbers_of_inputs, Goes, AllShow, MirrorsRunAlike}
use Rattle.safl_net.proofs.GatheredLists.{map_members}
use Rattle.safl_net.proofs.Twins.{twin, lasting, input_lasts, inputs_named, each_input, own, fits_state}

module _ (n m : Netlist) (kn : IsNetlist n) (km : IsNetlist m) (tidy : IsTidy n) (set : AllSet n) (acyclic : IsAcyclic n) (alike : Alike n m) (mirrors : Mirrors n m) where
  -- registers of one name hold the same
  record SameState (s t : ℕ → ℕ) : Type 0 where
    pub each : (a b i j : ℕ) (p q : Option ℕ) (g h : Signal) → slice_get n.signals a ≡ Some g → slice_get m.signals b ≡ Some h → g.kind ≡ Reg i p → h.kind ≡ Reg j q → h.name ≡ g.name → s a ≡ t b

  -- the inputs of cycles that show the same
  inputs_shown : (v w : Valuation) (s t : ℕ → ℕ) → Fits n s v → Fits m t w → ShowsCycle n m v w → numbers_of_inputs m.signals w ≡ numbers_of_inputs n.signals v
  inputs_shown v w s t fv fw shows =
      inputs_named m t w km fw
      ∙ ap (map (λ (l : Line). read m w l.0)) alike.inputs
      ∙ map_members (λ (l : Line). read m w l.0) (λ (l : Line). read n v l.0) (inputs_in n) (λ x h. shows.now x.0 (input_lasts n tidy x h))
      ∙ sym (inputs_named n s v kn fv)

  register_lasts : (a i : ℕ) (p : Option ℕ) (g : Signal) → slice_get n.signals a ≡ Some g → g.kind ≡ Reg i p → is_temp g.name ≡ false
  register_lasts a i p g e is = lasting n a g tidy e (ap one_wire is)

  one_cycle : (s t : ℕ → ℕ) (given : List ℕ) (v w : Valuation) → SameState s t → Fits n s v → numbers_of_inputs n.signals v ≡ given → Fits m t w → numbers_of_inputs m.signals w ≡ given
      → ShowsCycle n m v w
  one_cycle s t given v w same fv iv fw iw =
      let c = mirrors w (own m t w fw) in
      let fits : Fits n s c.0 = fits_state n s c.0 c.1 (λ a init next g e is.
      let k = twin n m alike.registers a init next g e is in
      sym (read_word n c.0 a g kn e)
      ∙ sym (c.2.now g.name (register_lasts a init next g e is))
      ∙ ap (read m w) (sym k.named)
      ∙ read_word m w k.number k.signal km k.there
      ∙ held k.number init k.next k.signal k.there k.kind
      ∙ sym (same.each a k.number init init next k.next g k.signal e k.there is k.kind k.named)) in
      let ins : numbers_of_inputs n.signals v ≡ numbers_of_inputs n.signals c.0 = iv ∙ sym iw ∙ inputs_shown c.0 w s t fits fw c.2 in
      let one : c.0 ≡ v = one_valuation n set acyclic s c.0 v fits fv (λ a g e is. each_input n.signals c.0 v fits.full fv.full (sym ins) a g e is) in
      subst (λ u. ShowsCycle n m u w) one c.2
    where
      held : (b init : ℕ) (next : Option ℕ) (h : Signal) → slice_get m.signals b ≡ Some h → h.kind ≡ Reg init next → slice_index w b ≡ t b
      held b init next h e is = subst (λ k. Holds m w (t b) (slice_index w b) k) is (fw.each b h e).1

  next_same : (v w : Valuation) → ShowsCycle n m v w → SameState (next_state n v) (next_state m w)
  next_same v w shows = record {
    each = λ a b i j p q g h e f is js named.
        ap (next_at n v) (sym (place_of n a g kn e))
        ∙ sym (shows.next g.name (register_lasts a i p g e is))
        ∙ ap (read_next m w) (sym named)
        ∙ ap (next_at m w) (place_of m b h km f);
  }

  reset_same : SameState (reset_state n) (reset_state m)
  reset_same = record {
    each = λ a b i j p q g h e f is js named.
        let k = twin n m alike.registers a i p g e is in
        let here : k.number ≡ b = km.apart k.number b k.signal h k.there f (k.named ∙ sym named) in
        ap reset_number e ∙ ap kind_reset is ∙ sym (ap kind_reset k.kind) ∙ sym (ap reset_number k.there) ∙ ap (reset_state m) here;
  }

  all_show : (s t : ℕ → ℕ) → SameState s t → (given : List (List ℕ)) (vs ws : List Valuation) → Goes n s given vs → Goes m t given ws → AllShow n m vs ws
  all_show s t same [] [] [] gv gw = tt
  all_show s t same [] [] (w ∷ ws) gv gw = absurd gw
  all_show s t same [] (v ∷ vs) ws gv gw = absurd gv
  all_show s t same (is ∷ given) [] ws gv gw = absurd gv
  all_show s t same (is ∷ given) (v ∷ vs) [] gv gw = absurd gw
  all_show s t same (is ∷ given) (v ∷ vs) (w ∷ ws) gv gw =
      let shows = one_cycle s t is v w same gv.0 gv.1 gw.0 gw.1 in
      (shows, all_show (next_state n v) (next_state m w) (next_same v w shows) given vs ws gv.2 gw.2)

  runs_alike : (given : List (List ℕ)) (vs ws : List Valuation) → Goes n (reset_state n) given vs → Goes m (reset_state m) given ws → AllShow n m vs ws
  runs_alike = all_show (reset_state n) (reset_state m) reset_same

pub run_alike : MirrorsRunAlike
run_alike = runs_alike
