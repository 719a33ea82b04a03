pub mod BenchesCrosses
