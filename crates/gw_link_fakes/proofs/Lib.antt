mod Dials
