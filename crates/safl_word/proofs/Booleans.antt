-- Booleans and choices by them.
use Rattle.std.proofs.Common.{Bool, cond, false, if◌then◌else◌, not, refl, true, ◌&&◌, ◌||◌, ◌≡◌}
use Rattle.std.specs.Int.{from_bool}

pub cond_cong : {A : Type 0} (b : Bool) (x y z : A) → (b ≡ true → x ≡ y) → cond b x z ≡ cond b y z
cond_cong true x y z h = h refl
cond_cong false x y z h = refl

pub cond_same : {A : Type 0} (b : Bool) (x : A) → cond b x x ≡ x
cond_same true x = refl
cond_same false x = refl

pub never_both : (b x : Bool) → (b ≡ true → x ≡ false) → (b && x) ≡ false
never_both true x h = h refl
never_both false x h = refl

pub bool_number : (b : Bool) → from_bool b ≡ cond b 1 0
bool_number true = refl
bool_number false = refl

pub false_true : {A : Type 0} → false ≡ true → A
false_true e = cc

pub or_assoc : (a b c : Bool) → ((a || b) || c) ≡ (a || (b || c))
or_assoc true b c = refl
or_assoc false b c = refl

pub or_none : (b : Bool) → b ≡ (b || false)
or_none true = refl
or_none false = refl

pub all_three : (x y z : Bool) → x ≡ true → y ≡ true → z ≡ true → (x && y && z) ≡ true
all_three x y z a b c = rw (a, b, c) refl

pub if_same : (b : Bool) → b ≡ (if b then true else false)
if_same true = refl
if_same false = refl

pub implied : (a b : Bool) → (not a || b) ≡ true → a ≡ true → b ≡ true
implied true b k l = k
implied false b k l = absurd cc
