-- Which chain a key has, among few places and many. Assumes nothing.
use Prim.Native.Nat.{ℕ, ◌+◌, ◌/◌, ◌%◌, ◌≤◌, ◌<◌}
use native.Mathlib.Nat.{mod-lt}
use mathlib.Core.Path.{◌≡◌, refl}
use lib.Dec.{lit<}
use borrow.Author.Tests.{le-leb, lt-leb}
use Rattle.rounds.specs.value_numbers.Classes.{chains, chain_of}

pub few_chains : (n : ℕ) → n ≤ 256 → 256 ≡ chains n
unfolding chains
few_chains n h = rw (le-leb n 256 h)

pub many_chains : (n : ℕ) → 256 < n → 2048 ≡ chains n
unfolding chains
many_chains n h = rw (lt-leb n 256 h)

pub few_chain :
    (n key : ℕ) → n ≤ 256
    → ((key % 1073741824 + key % 1073741824 / 64) % 256 ≡ chain_of n key) × ((key % 1073741824 + key % 1073741824 / 64) % 256 < chains n)
unfolding chains chain_of
few_chain n key h = rw (le-leb n 256 h) (refl, mod-lt (key % 1073741824 + key % 1073741824 / 64) (lit< tt))

pub many_chain :
    (n key : ℕ) → 256 < n
    → ((key % 1073741824 + key % 1073741824 / 64) % 2048 ≡ chain_of n key) × ((key % 1073741824 + key % 1073741824 / 64) % 2048 < chains n)
unfolding chains chain_of
many_chain n key h = rw (lt-leb n 256 h) (refl, mod-lt (key % 1073741824 + key % 1073741824 / 64) (lit< tt))
