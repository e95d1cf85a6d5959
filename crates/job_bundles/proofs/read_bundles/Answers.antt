-- `job_bundles::read_bundles` meets its contract. Assumes nothing.
use Rattle.std.proofs.Common.{◌≡◌, ℕ, [], ◌∷◌, ◌++◌, length, take, take_all, refl, sym, ap, ◌∙◌, arith}
use Rattle.std.proofs.lemmas.Result.{err_from_is_err_and}
use Rattle.geometry.specs.Port.{role_number}
use Rattle.geometry.specs.declared.Role.{Role}
use Rattle.wire.specs.ReadLaws.{many_refused}
use Rattle.job.specs.Job.{push, bundle_key, member_key, next_bundle, member}
use Rattle.job.specs.Keys.{Key}
use Rattle.job.specs.LoopSteps.{one_more, begun, done, pushed, push_stopped, bundle_turn, bundle_head_refused, bundle_members_refused}
use Rattle.job.specs.Heads.{member_role}
use Rattle.job.proofs.Windows.{bundle_window}
use Rattle.job.proofs.Lookups.{looked_up_or, none_yet, one_more_read}
use Rattle.job_bundles.proofs.read_bundles.Goals as goal

member-keys : (edge : ℕ) (r role : Role) (n : ℕ) → r ≡ role → n ≡ role_number role → ◌≡◌ {A = Key} (edge, n) (edge, role_number r)
member-keys edge r role n e h = rw (e, h)

pub loop-i-init : goal.loop-i-init
loop-i-init c =
    let a = c.args in
    rw (c.new-bundles.ensures, c.new-members.ensures)
    (refl, omega arith, none_yet member_key _ _ (none_yet bundle_key _ _ (begun next_bundle (length a.keys.now) (record { bundles = []; members = [] }) a.s.now.bytes.now)))

pub returns-in_err-b : goal.returns-in_err-b
returns-in_err-b c =
    let a = c.args in
    let l = c.loop-i in
    let s = l.s.bytes.now in
    let o = l.invariant.2 in
    let p = err_from_is_err_and c.from_residual.result c.from_residual.ensures.1 in
    rw (p.1, p.2)
    (sym o.left.left ∙ many_refused next_bundle (length a.keys.now) l.i (record { bundles = o.left.raw; members = o.raw }) s _ (omega arith)
    (bundle_head_refused o.left.raw o.raw (length l.members.items) o.size s _ (sym (rw c.len.ensures.value at c.in_err-b.ensures))))

pub loop-init : goal.loop-init
loop-init c =
    let l = c.loop-i in
    let s = l.s.bytes.now in
    let t = c.bundle_head.new.s.bytes.now in
    let o = l.invariant.2 in
    let head = sym (rw c.len.ensures.value at c.in_ok-b.ensures) in
    let w = bundle_window (length l.members.items) s _ t head in (
      omega arith,
      w.total,
      record {
        raw = o.raw;
        left = record { earlier = record { at = s; head = head; before = o }; rest = begun (push (member _)) _ o.raw t };
        size = o.size;
        keyed = o.keyed;
        known = o.known;
      },
    )

pub returns-in_err-x : goal.returns-in_err-x
returns-in_err-x c =
    let a = c.args in
    let l = c.loop-i in
    let y = c.loop in
    let w = y.invariant.2 in
    let e = w.left.earlier in
    let o = e.before in
    let f = c.from_residual-in_err-x in
    let p = err_from_is_err_and f.result f.ensures.1 in
    rw (p.1, p.2)
    (sym o.left.left ∙ many_refused next_bundle (length a.keys.now) l.i (record { bundles = o.left.raw; members = o.raw }) e.at _ (omega arith)
    (bundle_members_refused o.left.raw o.raw (length l.members.items) o.size e.at _ _ _ e.head
    (sym w.left.rest ∙ push_stopped (member _) _ y.counter w.raw y.s.bytes.now _ c.loop-test.true (sym c.in_err-x.ensures))))

pub loop-preserved : goal.loop-preserved
loop-preserved c =
    let y = c.loop in
    let w = y.invariant.2 in
    let s = y.s.bytes.now in
    let t = c.member.new.s.bytes.now in
    let n = length y.members.items in
    let one = sym c.in_ok-x.ensures in (
      omega (arith, c.push.ensures.len),
      y.invariant.1,
      rw (c.push.ensures.len, c.len-in-loop.ensures.value)
          (one_more_read member_key _ _ _ n (take n y.member_keys) _ y.members_known _ y.members.items _ w _ _
          (one_more y.member_keys n _ (omega arith)
          ∙ ap (λ (k : Key). take n y.member_keys ++ (k ∷ [])) (member-keys _ _ _ _ (member_role _ s _ t one) c.from-role_key.ensures))
          (looked_up_or _ _ _ _ c.is_some-members_known.ensures c.unwrap_or_default.ensures c.member_row-row.ensures)
          c.push.ensures.items
          (record { earlier = w.left.earlier; rest = pushed (member _) _ y.counter w.raw s _ _ t c.loop-test.true one refl ∙ w.left.rest })),
    )

pub loop-i-preserved : goal.loop-i-preserved
loop-i-preserved c =
    let a = c.args in
    let l = c.loop-i in
    let b = c.in_ok-b.b in
    let y = c.loop in
    let w = y.invariant.2 in
    let e = w.left.earlier in
    let o = e.before in (
      c.push-in-loop-i.ensures.len ∙ rw l.invariant.0,
      omega arith,
      record {
        raw = w.raw;
        left =
            one_more_read bundle_key _ _ _ l.i (take l.i l.keys) _ l.known _ l.bundles.items _ o.left _ _
            (one_more l.keys l.i _ (omega arith))
            (looked_up_or _ _ _ _ c.is_some-known.ensures c.unwrap_or_default-in-loop-i.ensures c.bundle_row-row.ensures)
            c.push-in-loop-i.ensures.items
            (bundle_turn o.left.raw (length a.keys.now) l.i (length l.members.items) o.raw w.raw e.at _ y.s.bytes.now b (omega arith) o.size e.head
            (sym w.left.rest ∙ done (push (member _)) _ y.counter w.raw y.s.bytes.now c.loop-test.false) ∙ o.left.left);
        size = w.size;
        keyed = w.keyed;
        known = w.known;
      },
    )

pub returns : goal.returns
returns c =
    let a = c.args in
    let l = c.loop-i in
    let o = l.invariant.2 in
    let q : l.i ≡ (length a.keys.now) = omega arith in
    record {
      raw = o.left.raw;
      raw_members = o.raw;
      is = sym o.left.left ∙ done next_bundle (length a.keys.now) l.i (record { bundles = o.left.raw; members = o.raw }) l.s.bytes.now (omega arith);
      keyed = sym (take_all l.i l.keys (omega arith)) ∙ o.left.keyed;
      member_keyed = o.keyed;
      known = o.left.known;
      members_known = o.known;
      rows = l.invariant.0 ∙ q;
      total = l.invariant.1;
    }
