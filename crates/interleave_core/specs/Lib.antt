pub mod Reinterleaving
