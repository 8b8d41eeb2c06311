-- The words of a command line that name a connection (this project's profile).
use Rattle.std.specs.Prelude.{◌≡◌, ℕ, ◌^◌, ◌<◌, ◌≤◌, List, ◌++◌, codes, decimal}
use Rattle.std.specs.Net.Grammar.{IsIpv4Text}
use Rattle.std.specs.Net.Socket.{v4_ip, v4_port}
use Rattle.std.specs.declared.net.socket_addr.SocketAddrV4.{SocketAddrV4}

-- N, how many connections there may be, and a port: a number from 1 to 65,535 in decimal without a leading zero
pub record IsPositive (text : List ℕ) (n : ℕ) : Type 0 where
  pub written : text ≡ decimal n
  pub least : 1 ≤ n
  pub most : n < 2 ^ 16

-- ADDRESS is `A.B.C.D:PORT`: four numbers below 256 in decimal without leading zeros, with dots between them, and a port
pub record IsAddress (text : List ℕ) (a : SocketAddrV4) : Type 0 where
  pub host : List ℕ
  pub digits : List ℕ
  pub written : text ≡ host ++ codes ":" ++ digits
  pub address : IsIpv4Text host (v4_ip a)
  pub port : IsPositive digits (v4_port a)
