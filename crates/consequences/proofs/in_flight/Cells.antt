-- What a move of the clock, an activation and a done make of the counts in flight, of each bank and in total.
use mathlib.Core.Path.{◌≡◌, refl, sym, ap, ◌∙◌}
use mathlib.Core.Logic.{◌≢◌}
use mathlib.Core.List.{List}
use mathlib.Core.Bool.{Bool, true, false}
use Prim.Native.Nat.{ℕ, ◌+◌, ◌*◌, ◌/◌, ◌%◌, ◌≤◌, ◌<◌}
use native.Mathlib.Omega.{arith}
use lib.Arith.{digits_div, digits_mod}
use lib.ListN.{length, set}
use lib.Seq.{get_or-set_same, get_or-set_other}
use Rattle.rules.specs.declared.Setting.{Setting}
use Rattle.rules.specs.State.{State, threads_used, thread_cell}
use Rattle.rules.specs.Clock.{epoch, turned}
use Rattle.rules.specs.Quota.{in_flight_here, in_flight_total}
use Rattle.rules.specs.Decision.{activated_threads}
use Rattle.rules.proofs.Cells.{thread_in}
use Rattle.rules.proofs.Clock.{turned_flying}
use Rattle.rules.proofs.Sums.{sum_same, sum_more}

-- ---- the clock

pub turned_here : (s : Setting) (st : State) (t bank thread : ℕ) → in_flight_here s (turned s st t).threads bank thread ≡ in_flight_here s st.threads bank thread
unfolding turned
turned_here s st t bank thread = turned_flying s bank thread (epoch s st.head.last) (epoch s t) st.threads

pub turned_total : (s : Setting) (st : State) (t bank thread : ℕ) → in_flight_total s (turned s st t).threads bank thread ≡ in_flight_total s st.threads bank thread
unfolding in_flight_total
turned_total s st t bank thread =
    sum_same s.banks (λ b. in_flight_here s st.threads b thread) (λ b. in_flight_here s (turned s st t).threads b thread)
    (λ b k. turned_here s st t b thread)

-- ---- a store into one count

-- the cells of two banks or two threads differ
apart : (s : Setting) (b th c th' : ℕ) → th < s.threads → th' < s.threads → thread_cell s c th' 2 ≡ thread_cell s b th 2 → (c ≡ b) × (th' ≡ th)
apart s b th c th' h h' e =
    let groups : c * s.threads + th' ≡ b * s.threads + th = omega arith in (
      sym (digits_div c h') ∙ ap (λ x. x / s.threads) groups ∙ digits_div b h,
      sym (digits_mod c h') ∙ ap (λ x. x % s.threads) groups ∙ digits_mod b h,
    )

module _ (s : Setting) (ts : List ℕ) (b th : ℕ) (v : ℕ) (thh : th < s.threads) where
  abbrev stored : List ℕ
  stored = set ts (thread_cell s b th 2) v

  stored_bank : (c : ℕ) → c ≢ b → in_flight_here s stored c th ≡ in_flight_here s ts c th
  stored_bank c n = get_or-set_other ts (thread_cell s b th 2) (thread_cell s c th 2) v 0 (λ e. n (apart s b th c th thh thh e).0)

  stored_thread : (c th' : ℕ) → th' < s.threads → th' ≢ th → in_flight_here s stored c th' ≡ in_flight_here s ts c th'
  stored_thread c th' h n = get_or-set_other ts (thread_cell s b th 2) (thread_cell s c th' 2) v 0 (λ e. n (apart s b th c th' thh h e).1)

  -- another thread's total stays
  pub other_total : (bank th' : ℕ) → th' < s.threads → th' ≢ th → in_flight_total s stored bank th' ≡ in_flight_total s ts bank th'
  unfolding in_flight_total
  other_total bank th' h n =
      sum_same s.banks (λ c. in_flight_here s ts c th') (λ c. in_flight_here s stored c th') (λ c k. stored_thread c th' h n)

  module _ (bh : b < s.banks) (long : threads_used s ≤ length ts) where
    stored_here : in_flight_here s stored b th ≡ v
    stored_here = get_or-set_same ts (thread_cell s b th 2) v 0 (omega (arith, thread_in s b th 2 bh thh (omega arith)))

    -- one more in a bank is one more in total, and one less is one less
    pub more_total : (bank : ℕ) → v ≡ in_flight_here s ts b th + 1 → in_flight_total s stored bank th ≡ in_flight_total s ts bank th + 1
    unfolding in_flight_total
    more_total bank e =
        sum_more s.banks (λ c. in_flight_here s ts c th) (λ c. in_flight_here s stored c th) b bh (stored_here ∙ e) (λ c k n. stored_bank c n)

    pub less_total : (bank : ℕ) → v + 1 ≡ in_flight_here s ts b th → in_flight_total s ts bank th ≡ in_flight_total s stored bank th + 1
    unfolding in_flight_total
    less_total bank e =
        sum_more s.banks (λ c. in_flight_here s stored c th) (λ c. in_flight_here s ts c th) b bh (sym e ∙ ap (λ x. x + 1) (sym stored_here))
        (λ c k n. sym (stored_bank c n))

-- ---- an activation

-- a store into an index counter leaves the counts in flight
index_total : (s : Setting) (ts : List ℕ) (b th k v bank thread : ℕ) → k < 2 → in_flight_total s (set ts (thread_cell s b th k) v) bank thread ≡ in_flight_total s ts bank thread
unfolding in_flight_total
index_total s ts b th k v bank thread h =
    sum_same s.banks (λ c. in_flight_here s ts c thread) (λ c. in_flight_here s (set ts (thread_cell s b th k) v) c thread)
    (λ c l. get_or-set_other ts (thread_cell s b th k) (thread_cell s c thread 2) v 0 (λ e. omega arith))

-- it is the store of one count more, as far as in flight goes
pub activated_total : (s : Setting) (ts : List ℕ) (b th bank thread : ℕ) (black : Bool)
    → in_flight_total s (activated_threads s ts b th black) bank thread
    ≡ in_flight_total s (set ts (thread_cell s b th 2) (in_flight_here s ts b th + 1)) bank thread
unfolding activated_threads
activated_total s ts b th bank thread true =
    index_total s _ b th 1 _ bank thread (omega arith) ∙ index_total s _ b th 0 _ bank thread (omega arith)
activated_total s ts b th bank thread false = refl
