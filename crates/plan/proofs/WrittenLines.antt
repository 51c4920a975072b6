-- A record that has no fault is read back from its line, which is short.
use mathlib.Core.Path.{◌≡◌, refl}
use mathlib.Core.Bool.{true}
use Prim.Native.Nat.{ℕ, ◌^◌, ◌<◌, ◌≤◌}
use native.Mathlib.Omega.{arith}
use lib.Dec.{ltb, leb}
use borrow.Author.Tests.{ltb-true, eqb-true}
use Rattle.octets.specs.Octets.{same}
use Rattle.octets.specs.Lists.{within}
use Rattle.octets.specs.Text.{text}
use Rattle.octets.proofs.Same.{both_true}
use Rattle.octets.proofs.Cases.{by_eq}
use Rattle.octets.proofs.ListLaws.{within_low, within_high}
use Rattle.codec.specs.FrameSet.{uni, enni, untagged, s_tagged}
use Rattle.plan.specs.Plan.{Plan, up, mip, good_vid}
use Rattle.plan.specs.Line.{Line, unreadable, port_line, flow_line, mp_line, field, listed, line_of, by_word}
use Rattle.plan.specs.Line.{port_kinds, flow_kinds, mp_kinds, as_port, as_flow, as_mp}
use Rattle.plan.specs.PlanText.{reason_of}
use Rattle.plan.specs.WrittenPlan.{word_at, fields_of, line_text}
use Rattle.plan.proofs.Fair.{fair_line}
use Rattle.plan.proofs.Faultless.{FaultlessFlow, FaultlessMp, port_cleared, flow_cleared, mp_cleared}
use Rattle.plan.proofs.WrittenNumbers.{decimal_back, decimal_is, address_back, address_is}
use Rattle.plan.proofs.WrittenFields.{fields_back}

-- a word that is listed has its place again
two_back : (n : ℕ) → within 1 2 n ≡ true → (P : ℕ → Type 0) → P 1 → P 2 → P n
two_back n h P one two =
    let low : 1 ≤ n = within_low 1 2 n h in
    let high : n ≤ 2 = within_high 1 2 n h in
    by_eq n 1 (λ e s. rw s one) (λ e s. let t : n ≡ 2 = omega (arith, s) in rw t two)

three_back : (n : ℕ) → within 1 3 n ≡ true → (P : ℕ → Type 0) → P 1 → P 2 → P 3 → P n
three_back n h P one two three =
    let low : 1 ≤ n = within_low 1 3 n h in
    let high : n ≤ 3 = within_high 1 3 n h in
    by_eq n 1 (λ e s. rw s one)
    (λ e s. by_eq n 2 (λ f t. rw t two) (λ f t. let u : n ≡ 3 = omega (arith, s, t) in rw u three))

port_word : (n : ℕ) → within uni enni n ≡ true → listed port_kinds (word_at port_kinds n) ≡ n
unfolding listed port_kinds word_at text same
port_word n h = two_back n h (λ n. listed port_kinds (word_at port_kinds n) ≡ n) refl refl

flow_word : (n : ℕ) → within untagged s_tagged n ≡ true → listed flow_kinds (word_at flow_kinds n) ≡ n
unfolding listed flow_kinds word_at text same
flow_word n h = three_back n h (λ n. listed flow_kinds (word_at flow_kinds n) ≡ n) refl refl refl

mp_word : (n : ℕ) → within up mip n ≡ true → listed mp_kinds (word_at mp_kinds n) ≡ n
unfolding listed mp_kinds word_at text same
mp_word n h = three_back n h (λ n. listed mp_kinds (word_at mp_kinds n) ≡ n) refl refl refl

vid_fits : (kind vid : ℕ) → good_vid kind vid ≡ true → vid ≤ 4094
unfolding good_vid
vid_fits kind vid h =
    by_eq kind untagged
    (λ e s. let z : vid ≡ 0 = eqb-true vid 0 (rw e at h) in omega arith)
    (λ e s. within_high 1 4094 vid (rw e at h))

low_some : (low high n : ℕ) → within low high n ≡ true → leb low n ≡ true
unfolding within
low_some low high n h = (both_true (leb low n) (leb n high) h).0

-- a number in range has at most 4 digits
few_digits : (low high x : ℕ) → within low high x ≡ true → high < 10 ^ 4 → x < 10 ^ 4
few_digits low high x h f = omega (arith, within_high low high x h)

pub line_back : (plan : Plan) (line : Line) → fair_line line ≡ true → reason_of plan line ≡ 0 → line_of (line_text line) ≡ line
unfolding line_of by_word fields_of as_port as_flow as_mp field text same fair_line reason_of
line_back plan unreadable fair e = absurd (omega arith)
line_back plan (port_line number kind address) fair e =
    let b : _ = both_true (within uni enni kind) (ltb address (2 ^ 48)) fair in
    let n : number < 10 ^ 4 = few_digits 1 8 number (port_cleared plan number address e).number_fits (omega arith) in
    rw (
      fields_back (port_line number kind address),
      decimal_is 3 number n,
      port_word kind b.0,
      low_some uni enni kind b.0,
      address_is address,
      decimal_back 4 number n,
      address_back address (ltb-true address (2 ^ 48) b.1),
    )
line_back plan (flow_line number port kind vid) fair e =
    let f : FaultlessFlow plan number port kind vid = flow_cleared plan number port kind vid e in
    let n : number < 10 ^ 4 = few_digits 1 32 number f.number_fits (omega arith) in
    let p : port < 10 ^ 4 = few_digits 1 8 port f.port_fits (omega arith) in
    let v : vid < 10 ^ 4 = omega (arith, vid_fits kind vid f.vid_fits) in
    rw (
      fields_back (flow_line number port kind vid),
      decimal_is 3 number n,
      decimal_is 3 port p,
      flow_word kind fair,
      low_some untagged s_tagged kind fair,
      decimal_is 3 vid v,
      decimal_back 4 number n,
      decimal_back 4 port p,
      decimal_back 4 vid v,
    )
line_back plan (mp_line flow kind level) fair e =
    let f : FaultlessMp plan flow level = mp_cleared plan flow level e in
    let n : flow < 10 ^ 4 = few_digits 1 32 flow f.flow_fits (omega arith) in
    let v : level < 10 ^ 4 = few_digits 0 7 level f.level_fits (omega arith) in
    rw (
      fields_back (mp_line flow kind level),
      decimal_is 3 flow n,
      mp_word kind fair,
      low_some up mip kind fair,
      decimal_is 3 level v,
      decimal_back 4 flow n,
      decimal_back 4 level v,
    )
