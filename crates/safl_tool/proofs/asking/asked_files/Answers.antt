use Rattle.safl_tool.proofs.Common.{Asked, asked, is_any_given, kind_of, traces_given}
use Rattle.std.proofs.Common.{◌≡◌, ℕ, ◌+◌, ◌<◌, ◌≤◌, List, ◌++◌, map, drop, length, get_or, String, string_bytes, Option, Bool, true, false, not, option_map, refl, sym, ap, ◌∙◌, arith}
use Rattle.std.specs.declared.alloc.Global.{Global}
use Rattle.std.proofs.lemmas.List.{map_push}
use Rattle.safl_command.specs.Traces.{Traces, files}
use Rattle.safl_tool.specs.Tracing.{file_of_kind, without, asked_by, have_probes, kinds_of}
use Rattle.safl_tool.proofs.Asked.{kind_at, kinds_long, asked_more, left_more, asked_all, left_all}
use Rattle.safl_tool.proofs.asking.asked_files.Goals as goal

-- all files are left at the beginning
all_left : (t : Traces) (v s g : Option (String Global)) → option_map string_bytes v ≡ t.vcd → option_map string_bytes s ≡ t.starts → option_map string_bytes g ≡ t.toggles → files v s g ≡ t
all_left t v s g a b c =
    ap (λ (x : Option (List ℕ)). record { vcd = x; starts = option_map string_bytes s; toggles = option_map string_bytes g }) a
    ∙ ap (λ (x : Option (List ℕ)). record { vcd = t.vcd; starts = x; toggles = option_map string_bytes g }) b
    ∙ ap (λ (x : Option (List ℕ)). record { vcd = t.vcd; starts = t.starts; toggles = x }) c

pub probes-init : goal.probes-init
probes-init g c =
    let ks : List ℕ = kinds_of (map (λ p. (goal.Probe-dyn g (p.vtable, p.value)).state p.value) c.args.probes.now) in
    let all = all_left (traces_given c.args.traces) c.in_ok-vcd.vcd c.in_ok-starts.starts c.in_ok-toggles.toggles c.in_ok-vcd.ensures c.in_ok-starts.ensures c.in_ok-toggles.ensures in
    let w : Traces = files c.in_ok-vcd.vcd c.in_ok-starts.starts c.in_ok-toggles.toggles in
    record {
      asked = ap (λ (l : List (Option (String Global))). asked l ++ asked_by w ks) c.new-files.ensures.items ∙ ap (λ t. asked_by t ks) all;
      left = ap (λ t. have_probes t ks) all;
    }

pub probes-preserved : goal.probes-preserved
probes-preserved g c =
    let here : c.probes.i < length c.args.probes.now = c.probes-test.true in
    let long = kinds_long (λ p. (goal.Probe-dyn g (p.vtable, p.value)).state p.value) c.args.probes.now in
    let ks : List ℕ = kinds_of (map (λ p. (goal.Probe-dyn g (p.vtable, p.value)).state p.value) c.args.probes.now) in
    let lt : c.probes.i < length ks = omega (arith, here, long) in
    let told = kind_at (λ p. (goal.Probe-dyn g (p.vtable, p.value)).state p.value) c.args.probes.now c.probes.i c.index-probes-i.result here c.index-probes-i.is in
    let kind : c.kind_of_probe-kind.result ≡ kind_of (get_or ks c.probes.i 0) = c.kind_of_probe-kind.ensures ∙ sym (ap kind_of told) in
    let w : Traces = files c.probes.vcd c.probes.starts c.probes.toggles in
    let u : Traces = files c.taken-file.new.vcd c.taken-file.new.starts c.taken-file.new.toggles in
    let all : Asked = asked_by (traces_given c.args.traces) ks in
    let file = c.taken-file.ensures.file ∙ ap (file_of_kind w) kind in
    let rest = c.taken-file.ensures.left ∙ ap (without w) kind in
    let more = map_push (option_map string_bytes) c.probes.files.items c.taken-file.result in
    record {
      asked =
          ap (λ (l : Asked). l ++ asked_by u (drop (c.probes.i + 1) ks)) (ap asked c.in_ok-push.ensures.items ∙ more)
          ∙ asked_more ks c.probes.i (get_or ks c.probes.i 0) w u (asked c.probes.files.items) (option_map string_bytes c.taken-file.result) all lt refl file rest c.probes.invariant.asked;
      left = left_more ks c.probes.i (get_or ks c.probes.i 0) w u (have_probes (traces_given c.args.traces) ks) lt refl rest c.probes.invariant.left;
    }

-- the probes are there where no file is left
no_probe : (t w : Traces) (ks : List ℕ) (i : ℕ) (any some : Bool) → length ks ≤ i → have_probes w (drop i ks) ≡ have_probes t ks → any ≡ is_any_given w → any ≡ some → have_probes t ks ≡ not some
no_probe t w ks i any some le h e is = sym (ap not (sym is ∙ e) ∙ left_all ks i w (have_probes t ks) le h)

pub returns-then-is_any : goal.returns-then-is_any
returns-then-is_any g c =
    let long = kinds_long (λ p. (goal.Probe-dyn g (p.vtable, p.value)).state p.value) c.args.probes.now in
    let ks : List ℕ = kinds_of (map (λ p. (goal.Probe-dyn g (p.vtable, p.value)).state p.value) c.args.probes.now) in
    let le : length ks ≤ c.probes.i = let a = c.probes-test.false in let b = c.probes.auto.i-end in omega (arith, a, b, long) in
    let w : Traces = files c.probes.vcd c.probes.starts c.probes.toggles in
    no_probe (traces_given c.args.traces) w ks c.probes.i c.is_any.result true le c.probes.invariant.left c.is_any.ensures c.if-is_any.true

pub returns : goal.returns
returns g c =
    let long = kinds_long (λ p. (goal.Probe-dyn g (p.vtable, p.value)).state p.value) c.args.probes.now in
    let ks : List ℕ = kinds_of (map (λ p. (goal.Probe-dyn g (p.vtable, p.value)).state p.value) c.args.probes.now) in
    let le : length ks ≤ c.probes.i = let a = c.probes-test.false in let b = c.probes.auto.i-end in omega (arith, a, b, long) in
    let w : Traces = files c.probes.vcd c.probes.starts c.probes.toggles in
    record {
      can = no_probe (traces_given c.args.traces) w ks c.probes.i c.is_any.result false le c.probes.invariant.left c.is_any.ensures c.if-is_any.false;
      is = asked_all ks c.probes.i w (asked c.probes.files.items) (asked_by (traces_given c.args.traces) ks) le c.probes.invariant.asked;
      waiting = c.requires;
    }
