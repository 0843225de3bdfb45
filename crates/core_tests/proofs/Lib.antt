mod Fits
mod Lending
mod Making
