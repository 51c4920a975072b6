-- The parts of an image that are 0 in a unit of the base: how long each is, and that it is 0.
use mathlib.Core.Path.{◌≡◌, refl}
use Prim.Native.Nat.{ℕ}
use lib.ListN.{length, length-replicate}
use Rattle.state.specs.State.{State}
use Rattle.state.specs.Image.{zeros, unit_flag, shared_address, ports_open}
use Rattle.state.specs.Image.{behind_places, port_counters, flows_open, behind_sessions}

pub zeros_length : (n : ℕ) → length (zeros n) ≡ n
unfolding zeros
zeros_length n = length-replicate n 0

module _ (s : State) where
  pub record Lengths : Type 0 where
    pub flag : length (unit_flag s) ≡ 4
    pub shared : length (shared_address s) ≡ 8
    pub ports_open_is : length (ports_open s) ≡ 16
    pub behind_places : length (behind_places s) ≡ 32
    pub counters : length (port_counters s) ≡ 192
    pub flows_open_is : length (flows_open s) ≡ 64
    pub behind_sessions_is : length (behind_sessions s) ≡ 2048

  pub lengths : Lengths
  unfolding unit_flag shared_address ports_open behind_places port_counters flows_open behind_sessions
  lengths =
      record {
        flag = zeros_length 4;
        shared = zeros_length 8;
        ports_open_is = zeros_length 16;
        behind_places = zeros_length 32;
        counters = zeros_length 192;
        flows_open_is = zeros_length 64;
        behind_sessions_is = zeros_length 2048;
      }

  -- in a unit of the base
  pub record Bare : Type 0 where
    pub flag : unit_flag s ≡ zeros 4
    pub shared : shared_address s ≡ zeros 8
    pub ports_open_is : ports_open s ≡ zeros 16
    pub behind_places : behind_places s ≡ zeros 32
    pub counters : port_counters s ≡ zeros 192
    pub flows_open_is : flows_open s ≡ zeros 64
    pub behind_sessions_is : behind_sessions s ≡ zeros 2048

  pub bare : Bare
  unfolding unit_flag shared_address ports_open behind_places port_counters flows_open behind_sessions
  bare =
      record {
        flag = refl;
        shared = refl;
        ports_open_is = refl;
        behind_places = refl;
        counters = refl;
        flows_open_is = refl;
        behind_sessions_is = refl;
      }
